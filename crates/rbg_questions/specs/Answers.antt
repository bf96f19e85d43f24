-- Answers. Each has one spelling: lines, of which the first tells how many follow. Those of matches by chance follow
-- until their numbers of matches add up to the first line's.
use Rattle.std.specs.Prelude.{ℕ, Bool, true, false, List, [], ◌++◌, length, Option, Some, None, codes, decimal}
use Rattle.std.specs.List.{flat_map}
use Rattle.hex.specs.Hex.{encode_lower}
use Rattle.rbg_wire.specs.Lines.{line_of}
use Rattle.rbg_wire.specs.Messages.{pairs_text}
use Rattle.rbg_questions.specs.declared.question_error.QuestionError.{QuestionError}
use Rattle.rbg_questions.specs.declared.question_error.QuestionError.TheVariants.{Long, Empty, Return, Word, Form, Illegal, Start, NoPlace, Over, Keeper, Memory}
use Rattle.rbg_rules.specs.Meaning.{AbstractAction, AbstractGame}
use Rattle.rbg_questions.specs.Chance.{Counted}
pub use Rattle.rbg_questions.specs.Fields.{names_text, numbers_text}
use Rattle.rbg_questions.specs.Searching.{Searched, searched_line}
use Rattle.rbg_questions.specs.Shapes.{action_line, layout_text}
use Rattle.rbg_questions.specs.declared.play_standing.PlayStanding.{PlayStanding}
use Rattle.rbg_questions.specs.declared.play_standing.PlayStanding.TheVariants.{ToMove, Finished}

-- What a session answers to a question.
--   moves: some legal moves, and whether they are cut: there are more.
--   to_move: the player who is to move.
--   finished: nobody is, and these are the scores.
--   state: how many legal moves there are, the key, how play stands, the pieces and what the variables hold.
--   key: the key of the place.
--   values: what the variables hold.
--   board: the pieces on the vertices.
--   names: the names of the players, of the pieces and of the variables.
--   shape: how much of each thing the game has, its bounds, directions and edges, and the actions by position.
--   by_chance: so many matches were played, and how many of them ended in which way.
--   searched: each legal move, with how matches after it ended, and for how many players.
--   sampled: the moves of a match, and how play stands after them.
--   packed: the bytes of the place.
--   farewell: nothing, at the end of a session.
pub data Answer : Type 0 where
  moves : (all : List (List (ℕ × ℕ))) → (cut : Bool) → Answer
  to_move : (player : ℕ) → Answer
  finished : (scores : List ℕ) → Answer
  state : (count number : ℕ) → (standing : Answer) → (pieces numbers : List ℕ) → Answer
  key : ℕ → Answer
  values board : List ℕ → Answer
  names : (players pieces variables : List (List ℕ)) → Answer
  shape : (game : AbstractGame) → (actions : List AbstractAction) → Answer
  by_chance : (matches : ℕ) → (counted : List Counted) → Answer
  searched : (players : ℕ) → (all : List Searched) → Answer
  sampled : (made : List (List (ℕ × ℕ))) → (standing : Answer) → Answer
  packed : List ℕ → Answer
  farewell : Answer

abbrev pub cut_text : Bool → List ℕ
cut_text true = codes " cut"
cut_text false = []

-- the scores of a match, each with a space after it, or a `-` for one that was stopped
abbrev pub ending_text : Option (List ℕ) → List ℕ
ending_text None = codes "- "
ending_text (Some scores) = flat_map (λ score. decimal score ++ codes " ") scores

-- the line of how many matches ended in one way
abbrev pub counted_text : Counted → List ℕ
counted_text counted = line_of (ending_text counted.scores ++ decimal counted.matches)

-- the answer of how play stands
abbrev pub standing_answer : PlayStanding → Answer
standing_answer (ToMove player) = to_move player
standing_answer (Finished scores) = finished scores.items

-- the lines of an answer
unfoldable pub answer_text : Answer → List ℕ
answer_text (moves all cut) =
    line_of (codes "moves " ++ decimal (length all) ++ cut_text cut) ++ flat_map (λ pairs. line_of (pairs_text pairs)) all
answer_text (to_move player) = line_of (codes "player " ++ decimal player)
answer_text (finished scores) = line_of (codes "finished" ++ numbers_text scores)
answer_text (state count number standing pieces numbers) =
    line_of (codes "state " ++ decimal count ++ codes " " ++ decimal number)
    ++ answer_text standing
    ++ line_of (codes "board" ++ numbers_text pieces)
    ++ line_of (codes "values" ++ numbers_text numbers)
answer_text (key number) = line_of (codes "key " ++ decimal number)
answer_text (values numbers) = line_of (codes "values" ++ numbers_text numbers)
answer_text (board pieces) = line_of (codes "board" ++ numbers_text pieces)
answer_text (names players pieces variables) =
    line_of (codes "players" ++ names_text players)
    ++ line_of (codes "pieces" ++ names_text pieces)
    ++ line_of (codes "variables" ++ names_text variables)
answer_text (by_chance matches counted) = line_of (codes "random " ++ decimal matches) ++ flat_map counted_text counted
answer_text (shape game actions) = layout_text game ++ flat_map action_line actions
answer_text (searched players all) = line_of (codes "search " ++ decimal (length all)) ++ flat_map (searched_line players) all
answer_text (sampled made standing) =
    line_of (codes "sample " ++ decimal (length made)) ++ flat_map (λ pairs. line_of (pairs_text pairs)) made ++ answer_text standing
answer_text (packed bytes) = line_of (codes "pack " ++ encode_lower bytes)
answer_text farewell = []

-- the word of a refusal
abbrev pub refusal_word : QuestionError → List ℕ
refusal_word Long = codes "long"
refusal_word Empty = codes "empty"
refusal_word Return = codes "return"
refusal_word Word = codes "word"
refusal_word Form = codes "form"
refusal_word Illegal = codes "illegal"
refusal_word Start = codes "start"
refusal_word NoPlace = codes "place"
refusal_word Over = codes "over"
refusal_word Keeper = codes "keeper"
refusal_word Memory = codes "memory"

-- the line of a refusal
unfoldable pub refusal_text : QuestionError → List ℕ
refusal_text refusal = line_of (codes "error " ++ refusal_word refusal)
