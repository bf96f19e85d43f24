-- The places of a game.
use Rattle.std.specs.Prelude.{ℕ, ◌<◌, ◌≤◌, length, Option, Some, None}
use Rattle.rbg_rules.specs.Positions.{positions_of}
use Rattle.rbg_rules.specs.Expression.{Expression}
use Rattle.rbg_rules.specs.State.{AbstractGame, IsStateOf}
use Rattle.rbg_rules.specs.Moves.{AbstractPlace}

-- The position, if there is one, is one of the rules.
abbrev pub IsLastOf : Expression → Option ℕ → Type 0
IsLastOf rules None = Unit {0}
IsLastOf rules (Some i) = (0 < i) × (i ≤ length (positions_of rules))

-- The place is one of the game: its semi-state is, and its last action is one of the rules.
pub record IsPlaceOf (game : AbstractGame) (place : AbstractPlace) : Type 0 where
  pub state : IsStateOf game place.state
  pub last : IsLastOf game.rules place.last
