-- The moves with which play can continue after a record.
use Rattle.std.specs.Prelude.{◌≢◌, ℕ, Bool, List, [], ◌++◌, length, take, codes}
use Rattle.std.specs.List.{flat_map}
use Rattle.rbg_moves.specs.Listing.{IsListed}
use Rattle.rbg_record.specs.Reaching.{IsPlaceAfter}
use Rattle.rbg_rules.specs.Meaning.{IsTooHard, AbstractPlace, Finished, list_moves, AbstractGame}
use Rattle.rbg_operations.specs.Lines.{move_line, cut_text, numbers_text}
use Rattle.rbg_operations.specs.Openings.{most_listed}

-- How play can continue at a place.
--   finished: it can't, since no move is legal. These are the values of the players.
--   listed: by these moves, each once and in order. They are all the legal ones, or 1,000 of them, marked as cut off.
--   too_hard: which moves are legal is a question above the limits.
pub data GoesOnAt (game : AbstractGame) (place : AbstractPlace) : (text : List ℕ) → Type 0 where
  finished : Finished game place
      → GoesOnAt game place
      (codes "finished" ++ numbers_text (take (length game.players) place.state.values) ++ codes "\n")
  listed : (moves : List (List (ℕ × ℕ))) (cut : Bool)
      → moves ≢ []
      → IsListed game place most_listed moves cut
      → GoesOnAt game place (flat_map (move_line place.state.player) moves ++ cut_text cut)
  too_hard : IsTooHard game list_moves place → GoesOnAt game place (codes "over\n")

-- the text has how play can continue at the place to which the moves of a record lead
pub record IsMovesAfter (game : AbstractGame) (bytes text : List ℕ) : Type 0 where
  pub place : AbstractPlace
  pub after : IsPlaceAfter game bytes place
  pub goes_on : GoesOnAt game place text
