-- Nothing else is left at the end.
use Rattle.std.proofs.Common.{sym, ◌∙◌}
use Rattle.std.proofs.lemmas.Bool.{true≢false}
use Rattle.rbg_warnings.specs.Actions.IsPart.{single, between}
use Rattle.rbg_warnings.proofs.Parts.{told}
use Rattle.rbg_warnings.proofs.rule_actions.part_of.Goals as goal

pub returns-then-is_single : goal.returns-then-is_single
returns-then-is_single c =
    told _ _ _ _ _ c.action.ensures.is_action c.action.ensures.further (single (rw c.is_single.ensures at c.if-is_single.true))

pub returns : goal.returns
returns c =
    between (rw c.is_single.ensures at c.if-is_single.false) (rw c.begins_change.ensures at c.if-begins_change.false)
    (λ e. true≢false (sym (c.is.ensures.1 e) ∙ c.if-is.false))
    (λ e. true≢false (sym (c.is-2.ensures.1 e) ∙ c.if-is-2.false))
