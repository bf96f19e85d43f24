-- Matches that are played by chance after each legal move of a place.
use Rattle.std.specs.Prelude.{◌<◌, ◌≤◌, ℕ, zero, suc, List, [], ◌++◌, length, map, All, AllPairs, codes, decimal}
use Rattle.rbg_rules.specs.Meaning.{AbstractGame, AbstractPlace, Finished}
use Rattle.rbg_moves.specs.Listing.{IsMoveBefore}
use Rattle.rbg_wire.specs.Lines.{line_of}
use Rattle.rbg_wire.specs.Messages.{pairs_text}
use Rattle.rbg_questions.specs.declared.question_error.QuestionError.{QuestionError}
use Rattle.rbg_questions.specs.declared.question_error.QuestionError.TheVariants.{Memory}
use Rattle.rbg_questions.specs.Chance.{AreTallied, Counted, IsUnmoved, IsUnplayed, Plays}
use Rattle.rbg_questions.specs.Places.{AreLegalMoves, IsUntold}
use Rattle.rbg_questions.specs.Sessions.{Leads}
use Rattle.rbg_questions.specs.Summary.{finished_in, mean_text, total_of}

-- A move, and how matches after it ended.
pub record Searched : Type 0 where
  pub pairs : List (ℕ × ℕ)
  pub counted : List Counted

-- So many matches were played from where the move leads, with the keeper's moves after it.
pub record IsSearched (game : AbstractGame) (place : AbstractPlace) (count : ℕ) (searched : Searched) : Type 0 where
  pub to : AbstractPlace
  pub leads : Leads game place searched.pairs to
  pub tallied : AreTallied game to count searched.counted

-- So many matches were played after each legal move of the place, in the order of the moves.
pub record AreSearched (game : AbstractGame) (place : AbstractPlace) (count : ℕ) (all : List Searched) : Type 0 where
  pub moves : AreLegalMoves game place (map (λ searched. searched.pairs) all)
  pub order : AllPairs IsMoveBefore (map (λ searched. searched.pairs) all)
  pub played : All (IsSearched game place count) all

-- the mean score of each of the first players over the matches that were finished, with a space before each
abbrev pub means_text : List Counted → (players : ℕ) → List ℕ
means_text counted zero = []
means_text counted (suc n) = means_text counted n ++ (codes " " ++ mean_text (total_of n counted) (finished_in counted))

-- the line of a move: how many matches after it were finished, the means, and its pairs
abbrev pub searched_line : (players : ℕ) → Searched → List ℕ
searched_line players searched =
    line_of (decimal (finished_in searched.counted) ++ means_text searched.counted players ++ codes " " ++ pairs_text searched.pairs)

-- Why no matches are played after each move.
--   unmoved: the moves aren't listed, or one of them isn't made.
--   unplayed: a match after one of them isn't played to its end.
pub data IsUnsearched (game : AbstractGame) (place : AbstractPlace) : QuestionError → Type 0 where
  unmoved : {refusal : QuestionError} → IsUnmoved game place refusal → IsUnsearched game place refusal
  unplayed : {pairs : List (ℕ × ℕ)} {to : AbstractPlace} {refusal : QuestionError} →
      Leads game place pairs to →
      IsUnplayed game to refusal →
      IsUnsearched game place refusal

-- One match by chance from the place has these moves, at most so many, and leads to this place: fewer only where play is
-- finished there.
pub record IsSampled (game : AbstractGame) (place : AbstractPlace) (most : ℕ) (moves : List (List (ℕ × ℕ))) (to : AbstractPlace)
    : Type 0
  where
    pub plays : Plays game place moves to
    pub few : length moves ≤ most
    pub whole : length moves < most → Finished game to

-- Why no such match is played.
--   unmoved_on: moves, fewer than so many, lead to where no move is made.
--   untold: moves, at most so many, lead to where it isn't told whether play is finished.
--   no_memory: memory ran out, which says nothing of the place.
pub data IsUnsampled (game : AbstractGame) (place : AbstractPlace) (most : ℕ) : QuestionError → Type 0 where
  unmoved_on : {moves : List (List (ℕ × ℕ))} {to : AbstractPlace} {refusal : QuestionError} →
      Plays game place moves to →
      length moves < most →
      IsUnmoved game to refusal →
      IsUnsampled game place most refusal
  untold : {moves : List (List (ℕ × ℕ))} {to : AbstractPlace} {refusal : QuestionError} →
      IsSampled game place most moves to →
      IsUntold game to refusal →
      IsUnsampled game place most refusal
  no_memory : IsUnsampled game place most Memory
