-- What a session answers to a question, and why it refuses one.
use Rattle.std.specs.Prelude.{◌≡◌, ◌≢◌, ℕ, ◌+◌, ◌<◌, ◌≤◌, List, [], ◌∷◌, ◌++◌, length, take, Bool, false, Option, Some, None}
use Rattle.std.specs.Borrow.{Bor}
use Rattle.rbg_rules.specs.Meaning.{AbstractGame, AbstractPlace, AbstractAction, Legal, Finished, IsPlaceOf}
use Rattle.rbg_moves.specs.Listing.{IsListed}
use Rattle.rbg_questions.specs.declared.question.Question.{Question}
use Rattle.rbg_questions.specs.declared.question.Question.TheVariants.{Moves, Make, Back, Heard, Place, State, Key, Values, Board, Names, Shape, Random, Search, Sample, Pack, Unpack, Quit}
use Rattle.rbg_questions.specs.declared.question_error.QuestionError.{QuestionError}
use Rattle.rbg_questions.specs.declared.question_error.QuestionError.TheVariants.{Long, Start, NoPlace, Memory}
use Rattle.rbg_questions.specs.Limits.{longest_line}
use Rattle.rbg_questions.specs.Questions.{SpellsQuestion}
use Rattle.rbg_questions.specs.Misfits.{IsMisfit}
use Rattle.rbg_questions.specs.Packing.{packed_of, packed_text}
use Rattle.rbg_questions.specs.Keys.{key_of}
use Rattle.rbg_questions.specs.Answers.{Answer, moves, to_move, finished, state, key, values, board, names, shape, by_chance, searched, sampled, packed, farewell, answer_text, refusal_text}
use Rattle.rbg_questions.specs.Sessions.{AbstractSession, Leads}
use Rattle.rbg_questions.specs.Chance.{Counted, AreTallied, IsUnplayed}
use Rattle.rbg_questions.specs.Places.{AreLegalMoves, IsUnfollowed, IsUnlisted, IsUnmade, IsUntold}
use Rattle.rbg_questions.specs.Searching.{AreSearched, IsSampled, IsUnsampled, IsUnsearched, Searched}
use Rattle.rbg_questions.specs.Shapes.{AreActions}

-- How play stands at the place.
--   goes_on: there is a legal move, and this player is to move.
--   is_over: there is none, and these are the scores.
pub data StandsAt (game : AbstractGame) (place : AbstractPlace) : Answer → Type 0 where
  goes_on : ¬ Finished game place → StandsAt game place (to_move place.state.player)
  is_over : Finished game place → StandsAt game place (finished (take (length game.players) place.state.values))

-- The place has so many legal moves.
pub record HasMoves (game : AbstractGame) (place : AbstractPlace) (count : ℕ) : Type 0 where
  pub all : List (List (ℕ × ℕ))
  pub are : AreLegalMoves game place all
  pub many : count ≡ length all

-- the session where a move that was heard leads to that place
abbrev pub heard_to : AbstractSession → AbstractPlace → AbstractSession
heard_to session to = record session { heard = to; before = []; place = to }

-- the session where that place is unpacked: moves count from there, and none was made
abbrev pub placed_at : AbstractSession → AbstractPlace → AbstractSession
placed_at session place = record session { origin = place; heard = place; before = []; place = place }

-- the session after a move to that place
abbrev pub moved_to : AbstractSession → AbstractPlace → AbstractSession
moved_to session to = record session { before = session.before ++ session.place ∷ []; place = to }

-- So many moves are undone: the new place is the one before them, and as many places stood before it as then.
pub record GoesBack (old : AbstractSession) (many : ℕ) (new : AbstractSession) : Type 0 where
  pub game : new.game ≡ old.game
  pub origin : new.origin ≡ old.origin
  pub heard : new.heard ≡ old.heard
  pub later : List AbstractPlace
  pub places : old.before ≡ new.before ++ new.place ∷ later
  pub all : many ≡ length later + 1

-- how many moves are undone: one, where the question has no number
abbrev pub undone : Option ℕ → ℕ
undone None = 1
undone (Some many) = many

-- What a session answers, and where it stands then.
--   lists: at most so many legal moves.
--   lists_all: all of them.
--   makes: a legal move is made, and the keeper's moves after it; how play stands there.
--   undoes: so many moves are undone; how play stands there.
--   hears: a legal move is heard, and play stands where it leads; how play stands there.
--   tells: how play stands.
--   tells_state: how many legal moves there are, the key, how play stands, what stands on the vertices and what the
--   variables hold.
--   tells_key: the key of the place.
--   tells_values, tells_board: what the variables hold, and what stands on the vertices.
--   tells_names: the names of the game's players, pieces and variables.
--   tells_shape: how much of each thing the game has, its bounds, directions and edges, and the actions by position.
--   plays: so many matches were played by chance, and how many of them ended in which way.
--   searches: so many matches were played after each legal move, and how they ended.
--   samples: one match was played by chance, of at most so many moves; its moves, and how play stands after them.
--   packs: the bytes of the place.
--   unpacks: a place of the game is unpacked, and play stands there; how play stands there.
--   ends: nothing.
pub data Answers (old : AbstractSession) : Question → (new : AbstractSession) → Answer → Type 0 where
  lists : {max : ℕ} {all : List (List (ℕ × ℕ))} {cut : Bool} →
      IsListed old.game old.place max all cut →
      Answers old (Moves (Some max)) old (moves all cut)
  lists_all : {max : ℕ} {all : List (List (ℕ × ℕ))} →
      IsListed old.game old.place max all false →
      Answers old (Moves None) old (moves all false)
  makes : {pairs : List (ℕ × ℕ)} {to : AbstractPlace} {answer : Answer} →
      Leads old.game old.place pairs to →
      StandsAt old.game to answer →
      Answers old (Make pairs) (moved_to old to) answer
  undoes : {many : Option ℕ} {new : AbstractSession} {answer : Answer} →
      GoesBack old (undone many) new →
      StandsAt new.game new.place answer →
      Answers old (Back many) new answer
  hears : {pairs : List (ℕ × ℕ)} {to : AbstractPlace} {answer : Answer} →
      Legal old.game old.heard pairs to →
      StandsAt old.game to answer →
      Answers old (Heard pairs) (heard_to old to) answer
  tells_state : {count : ℕ} {standing : Answer} →
      HasMoves old.game old.place count →
      StandsAt old.game old.place standing →
      Answers old State old (state count (key_of old.place) standing old.place.state.pieces old.place.state.values)
  tells_key :
      Answers old Key old (key (key_of old.place))
  tells : {answer : Answer} →
      StandsAt old.game old.place answer →
      Answers old Place old answer
  tells_values :
      Answers old Values old (values old.place.state.values)
  tells_board :
      Answers old Board old (board old.place.state.pieces)
  tells_names :
      Answers old Names old (names old.game.players old.game.pieces old.game.variables)
  tells_shape : {actions : List AbstractAction} →
      AreActions old.game.rules actions →
      Answers old Shape old (shape old.game actions)
  plays : {seed count : ℕ} {counted : List Counted} →
      AreTallied old.game old.place count counted →
      Answers old (Random seed count) old (by_chance count counted)
  searches : {seed count : ℕ} {all : List Searched} →
      AreSearched old.game old.place count all →
      Answers old (Search seed count) old (searched (length old.game.players) all)
  samples : {seed most : ℕ} {moves : List (List (ℕ × ℕ))} {to : AbstractPlace} {standing : Answer} →
      IsSampled old.game old.place most moves to →
      StandsAt old.game to standing →
      Answers old (Sample seed most) old (sampled moves standing)
  packs :
      Answers old Pack old (packed (packed_of old.place))
  unpacks : {text : Bor (List ℕ)} {place : AbstractPlace} {answer : Answer} →
      IsPlaceOf old.game place →
      text.now ≡ packed_text place →
      StandsAt old.game place answer →
      Answers old (Unpack text) (placed_at old place) answer
  ends :
      Answers old Quit old farewell

-- Why a session refuses a question.
--   unmade: the move isn't made, with the keeper's moves after it.
--   untold_after: it isn't told how play stands where they lead.
--   too_far: fewer moves were made than are to be undone.
--   unheard: the move isn't followed from where the moves lead that were heard.
--   untold_where_heard: it isn't told how play stands where it leads.
--   unlisted, uncounted: the legal moves aren't listed.
--   untold: it isn't told how play stands.
--   unplayed: a match by chance isn't played to its end.
--   unsearched: the matches after each move aren't all played.
--   unsampled: the match isn't played, or how play stands after it isn't told.
--   not_packed: no place of the game is packed so.
--   untold_where_unpacked: it isn't told how play stands there.
--   out_of_memory: memory ran out, which says nothing of the question.
pub data IsRefused (session : AbstractSession) : Question → QuestionError → Type 0 where
  unmade : {pairs : List (ℕ × ℕ)} {refusal : QuestionError} →
      IsUnmade session.game session.place pairs refusal →
      IsRefused session (Make pairs) refusal
  untold_after : {pairs : List (ℕ × ℕ)} {to : AbstractPlace} {refusal : QuestionError} →
      Leads session.game session.place pairs to →
      IsUntold session.game to refusal →
      IsRefused session (Make pairs) refusal
  too_far : {many : Option ℕ} →
      length session.before < undone many →
      IsRefused session (Back many) Start
  unheard : {pairs : List (ℕ × ℕ)} {refusal : QuestionError} →
      IsUnfollowed session.game session.heard pairs refusal →
      IsRefused session (Heard pairs) refusal
  untold_where_heard : {pairs : List (ℕ × ℕ)} {to : AbstractPlace} {refusal : QuestionError} →
      Legal session.game session.heard pairs to →
      IsUntold session.game to refusal →
      IsRefused session (Heard pairs) refusal
  unlisted : {max : Option ℕ} {refusal : QuestionError} →
      IsUnlisted session.game session.place refusal →
      IsRefused session (Moves max) refusal
  uncounted : {refusal : QuestionError} →
      IsUnlisted session.game session.place refusal →
      IsRefused session State refusal
  untold : {refusal : QuestionError} →
      IsUntold session.game session.place refusal →
      IsRefused session Place refusal
  unplayed : {seed count : ℕ} {refusal : QuestionError} →
      IsUnplayed session.game session.place refusal →
      IsRefused session (Random seed count) refusal
  unsearched : {seed count : ℕ} {refusal : QuestionError} →
      IsUnsearched session.game session.place refusal →
      IsRefused session (Search seed count) refusal
  unsampled : {seed most : ℕ} {refusal : QuestionError} →
      IsUnsampled session.game session.place most refusal →
      IsRefused session (Sample seed most) refusal
  not_packed : {text : Bor (List ℕ)} →
      ((place : AbstractPlace) → IsPlaceOf session.game place → text.now ≢ packed_text place) →
      IsRefused session (Unpack text) NoPlace
  untold_where_unpacked : {text : Bor (List ℕ)} {place : AbstractPlace} {refusal : QuestionError} →
      IsPlaceOf session.game place →
      text.now ≡ packed_text place →
      IsUntold session.game place refusal →
      IsRefused session (Unpack text) refusal
  out_of_memory : {question : Question} →
      IsRefused session question Memory

-- The question is answered so, and the answer's lines stand after the bytes that were there.
pub record AnswersIn
    (old : AbstractSession) (question : Question) (new : AbstractSession) (before after : List ℕ)
    : Type 0
  where
    pub answer : Answer
    pub answers : Answers old question new answer
    pub told : after ≡ before ++ answer_text answer

-- Why a session refuses a line.
--   too_long: it has more than 65,536 bytes.
--   no_question: it is not too long, and no question, for this reason.
--   refused: it is a question that is refused.
pub data IsLineRefused (session : AbstractSession) (line : List ℕ) : QuestionError → Type 0 where
  too_long :
      longest_line < length line →
      IsLineRefused session line Long
  no_question : {refusal : QuestionError} →
      length line ≤ longest_line →
      ((question : Question) → ¬ SpellsQuestion line question) →
      IsMisfit line refusal →
      IsLineRefused session line refusal
  refused : {question : Question} {refusal : QuestionError} →
      SpellsQuestion line question →
      IsRefused session question refusal →
      IsLineRefused session line refusal

-- What a session does where it hears a line.
--   answered: the line is a question, and its answer stands after the bytes that were there.
--   refused_line: the session is as before, and the line of the refusal stands there.
pub data Hears
    (old : AbstractSession) (line : List ℕ)
    : (new : AbstractSession) → (before after : List ℕ) → Type 0
  where
    answered : {question : Question} {new : AbstractSession} {before after : List ℕ} →
        SpellsQuestion line question →
        AnswersIn old question new before after →
        Hears old line new before after
    refused_line : {refusal : QuestionError} {before : List ℕ} →
        IsLineRefused old line refusal →
        Hears old line old before (before ++ refusal_text refusal)
