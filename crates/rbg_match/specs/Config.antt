-- What a config may be.
use Rattle.std.specs.Prelude.{◌≤◌}
use Rattle.std.specs.Coded.{le_prop}
use Rattle.rbg_match.specs.declared.config.Config.{Config}
use Rattle.rbg_match.specs.Limits.{longest_turn, most_refusals}

-- A turn lasts at least a millisecond and at most an hour, and at most 100 refused messages are allowed to a seat.
pub record IsWithinLimits (config : Config) : Type 0 where
  pub turn_some : 1 ≤ config.turn_ms
  pub turn_most : config.turn_ms ≤ longest_turn
  pub refusals_most : config.refusals ≤ most_refusals

-- there is one proof of it at most
pub IsWithinLimits-prop : (config : Config) → IsProp (IsWithinLimits config)
IsWithinLimits-prop config x y = λ i. record {
  turn_some = le_prop x.turn_some y.turn_some i;
  turn_most = le_prop x.turn_most y.turn_most i;
  refusals_most = le_prop x.refusals_most y.refusals_most i;
}
