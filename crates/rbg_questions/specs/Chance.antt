-- Matches that are played by chance from a place, and how many of them end in which way.
use Rattle.std.specs.Prelude.{◌≡◌, ◌≢◌, ℕ, ◌<◌, List, [], ◌∷◌, ◌++◌, length, take, map, All, AllPairs, Option, Some, None}
use Rattle.std.specs.List.{sum_by}
use Rattle.rbg_rules.specs.Meaning.{AbstractGame, AbstractPlace, Finished}
use Rattle.rbg_questions.specs.declared.question_error.QuestionError.{QuestionError}
use Rattle.rbg_questions.specs.declared.tally.Ending.{Ending}
use Rattle.rbg_questions.specs.declared.tally.Ending.TheVariants as endings
use Rattle.rbg_questions.specs.declared.tally.EndingTally.{EndingTally}
use Rattle.rbg_questions.specs.Limits.{most_played}
use Rattle.rbg_questions.specs.Places.{IsStopped, IsUnlisted}
use Rattle.rbg_questions.specs.Sessions.{Leads}

-- Legal moves of the players, one after the other, each with the keeper's moves after it, lead from one place to the
-- other.
pub data Plays (game : AbstractGame) (from : AbstractPlace) : (moves : List (List (ℕ × ℕ))) → (to : AbstractPlace) → Type 0 where
  no_move : Plays game from [] from
  one_more : {moves : List (List (ℕ × ℕ))} {middle to : AbstractPlace} {pairs : List (ℕ × ℕ)} →
      Plays game from moves middle →
      Leads game middle pairs to →
      Plays game from (moves ++ pairs ∷ []) to

-- How a match of these moves ends.
--   is_over: nobody has a legal move, and the players have these scores.
--   is_stopped: 10,000 moves were made, and no more are. It has no scores.
pub data Ends (game : AbstractGame) (from : AbstractPlace) : (moves : List (List (ℕ × ℕ))) → (scores : Option (List ℕ)) → Type 0 where
  is_over : {moves : List (List (ℕ × ℕ))} {to : AbstractPlace} →
      length moves < most_played →
      Plays game from moves to →
      Finished game to →
      Ends game from moves (Some (take (length game.players) to.state.values))
  is_stopped : {moves : List (List (ℕ × ℕ))} {to : AbstractPlace} →
      length moves ≡ most_played →
      Plays game from moves to →
      Ends game from moves None

-- So many matches ended with these scores, or were stopped, and so many moves of the players were made in them together.
pub record Counted : Type 0 where
  pub scores : Option (List ℕ)
  pub matches : ℕ
  pub moves : ℕ

-- the scores of an ending, and what a tally counts
abbrev pub scores_of : Ending → Option (List ℕ)
scores_of (endings.Finished scores) = Some scores.items
scores_of endings.Stopped = None

abbrev pub counted_by : EndingTally → Counted
counted_by tally = record { scores = scores_of tally.ending; matches = tally.matches; moves = tally.moves }

-- how many moves of the players matches have, taken together
abbrev pub moves_in : List (List (List (ℕ × ℕ))) → ℕ
moves_in = sum_by (λ moves. length moves)

-- There are so many matches from the place that end so, at least one, and they have so many moves.
pub record AreMatches (game : AbstractGame) (from : AbstractPlace) (counted : Counted) : Type 0 where
  pub matches : List (List (List (ℕ × ℕ)))
  pub ended : All (λ moves. Ends game from moves counted.scores) matches
  pub many : counted.matches ≡ length matches
  pub some : 0 < counted.matches
  pub moved : counted.moves ≡ moves_in matches

-- So many matches from the place are counted: those of one ending together.
pub record AreTallied (game : AbstractGame) (from : AbstractPlace) (count : ℕ) (all : List Counted) : Type 0 where
  pub matches : All (AreMatches game from) all
  pub different : AllPairs (λ a b. a ≢ b) (map (λ counted. counted.scores) all)
  pub sum : sum_by (λ counted. counted.matches) all ≡ count

-- Why no move is made by chance at a place: the legal moves aren't listed, or one of them is stopped.
pub data IsUnmoved (game : AbstractGame) (place : AbstractPlace) (refusal : QuestionError) : Type 0 where
  unlisted : IsUnlisted game place refusal → IsUnmoved game place refusal
  stopped_at : {pairs : List (ℕ × ℕ)} → IsStopped game place pairs refusal → IsUnmoved game place refusal

-- A match from the place isn't played to its end: fewer than 10,000 moves lead to where no move is made.
pub record IsUnplayed (game : AbstractGame) (from : AbstractPlace) (refusal : QuestionError) : Type 0 where
  pub moves : List (List (ℕ × ℕ))
  pub few : length moves < most_played
  pub to : AbstractPlace
  pub plays : Plays game from moves to
  pub unmoved : IsUnmoved game to refusal
