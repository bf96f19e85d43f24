-- Which actions of the program are negative patterns.
use Rattle.std.specs.Prelude.{Bool, true, false}
use Rattle.rbg_rules.specs.declared.rule.Action.{Action}
use Rattle.rbg_rules.specs.declared.rule.Action.TheVariants.{Shift, On, Off, Assign, Compare, Switch, Positive, Negative}

abbrev pub shows_negative : Action → Bool
shows_negative Negative = true
shows_negative (Off x) = false
shows_negative (Assign v e) = false
shows_negative (Switch n) = false
shows_negative (Shift d) = false
shows_negative (On pieces) = false
shows_negative (Compare e r f) = false
shows_negative Positive = false
