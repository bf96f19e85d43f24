-- The action is told, or there is none at this position.
use Rattle.std.proofs.Common.{refl, inl, inr, arith}
use Rattle.rbg_c.specs.Filling.{lacking, told}
use Rattle.rbg_c.proofs.Shaped.{action_told, no_action}
use Rattle.rbg_c.proofs.shape.fill_action.Goals as goal

pub returns-then-position-eq0 : goal.returns-then-position-eq0
returns-then-position-eq0 c = lacking (no_action _ _ _ c.positions-count.ensures.lawful (inl c.if-position-eq0.true)) refl refl

pub returns-then-position-count : goal.returns-then-position-count
returns-then-position-count c =
    lacking (no_action _ _ _ c.positions-count.ensures.lawful (inr (omega (arith, c.positions-count.ensures.count, c.if-position-count.true)))) refl refl

pub returns : goal.returns
returns c = told (action_told _ _ _ c.action-action.result.now c.action-action.ensures c.kind_of.ensures) c.fill_named.ensures
