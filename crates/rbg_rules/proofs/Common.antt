-- The definitions of this crate that most proofs cite, passed on from one place. Declares nothing.
pub use Rattle.rbg_rules.specs.declared.arithmetic.Arithmetic.{Arithmetic}
pub use Rattle.rbg_rules.specs.declared.arithmetic.Arithmetic.TheFolds.{fold_out-Arithmetic, fold_out-Operation, map-Arithmetic, map-Operation}
pub use Rattle.rbg_rules.specs.declared.arithmetic.Arithmetic.TheOpen.{Arithmetic-F, Operation-F}
pub use Rattle.rbg_rules.specs.declared.arithmetic.Arithmetic.TheVariants.{Chain, Negated, Number, PieceCount, Variable, outs-Chain, outs-Negated, outs-Number, outs-PieceCount, outs-Variable}
pub use Rattle.rbg_rules.specs.declared.arithmetic.Arithmetic.TheViews.{out-Arithmetic, out-Operation, out-roll-Operation, roll-Operation}
pub use Rattle.rbg_rules.specs.declared.arithmetic.Operation.{Operation}
pub use Rattle.rbg_rules.specs.declared.rule.Action.{Action}
pub use Rattle.rbg_rules.specs.declared.rule.Action.TheVariants.{Assign, Compare, Negative, Off, On, Positive, Shift, Switch}
pub use Rattle.rbg_rules.specs.declared.rule.Rule.{Rule}
pub use Rattle.rbg_rules.specs.declared.rule.Rule.TheFolds.{fold-roll-Rule, fold_out-Rule, ind-Rule, map-Rule}
pub use Rattle.rbg_rules.specs.declared.rule.Rule.TheOpen.{Rule-F}
pub use Rattle.rbg_rules.specs.declared.rule.Rule.TheVariants.{Act, Or, Pattern, Star, Then, outs-Act, outs-Or, outs-Pattern, outs-Star, outs-Then}
pub use Rattle.rbg_rules.specs.declared.rule.Rule.TheViews.{out-Rule, roll-Rule}
