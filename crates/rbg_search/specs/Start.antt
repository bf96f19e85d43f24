-- Where the program stands in the rules.
use Rattle.std.specs.Prelude.{◌<◌, ◌≤◌, ℕ, length}
use Rattle.rbg_rules.specs.Meaning.{Expression, positions_of}
pub use Rattle.rbg_shifts.specs.Origin.{start_of}

-- The position is one of the rules.
pub record IsPositionOf (rules : Expression) (p : ℕ) : Type 0 where
  pub from_one : 0 < p
  pub there : p ≤ length (positions_of rules)
