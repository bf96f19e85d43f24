-- The limits on the questions that are asked at a place.
use Rattle.std.specs.Prelude.{ℕ, List}
use Rattle.rbg_rules.specs.State.{AbstractGame}
use Rattle.rbg_rules.specs.Moves.{AbstractPlace, point_of}
use Rattle.rbg_rules.specs.Questions.{Question, find_move, try_move, IsHeavy}
use Rattle.rbg_rules.specs.Limits.{most_openings, most_modifiers}

-- The question asked at a place is above the limits.
abbrev pub IsTooHard : AbstractGame → Question → AbstractPlace → Type 0
IsTooHard game question place = IsHeavy game question place.state (point_of place.last) most_openings most_modifiers

-- The question for a legal move is above the limits.
abbrev pub IsHeavyToFind : AbstractGame → AbstractPlace → Type 0
IsHeavyToFind game place = IsTooHard game find_move place

-- The question whether the move of these pairs is legal is above the limits.
abbrev pub IsHeavyToTry : AbstractGame → AbstractPlace → List (ℕ × ℕ) → Type 0
IsHeavyToTry game place pairs = IsTooHard game (try_move pairs) place
