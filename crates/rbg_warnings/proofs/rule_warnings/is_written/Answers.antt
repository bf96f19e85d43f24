-- A position after the other.
use Rattle.rbg_base.proofs.Common.{refl, arith, false≢true}
use Rattle.rbg_warnings.proofs.ActionsAt.{unused_none, unused_more, unused_all, written}
use Rattle.rbg_warnings.proofs.rule_warnings.is_written.Goals as goal

pub loop-index-init : goal.loop-index-init
loop-index-init c = unused_none c.args.game.now c.args.thing c.positions-index-end.ensures.lawful.numbered

pub returns-then-uses : goal.returns-then-uses
returns-then-uses c = (λ _. written c.args.game.now c.args.thing _ _ _ c.action.ensures c.if-uses.ensures refl, λ _. refl)

pub loop-index-preserved : goal.loop-index-preserved
loop-index-preserved c =
    unused_more c.args.game.now c.args.thing c.loop-index.index _ _ c.positions-index-end.ensures.lawful.numbered c.action.ensures c.if-uses.ensures refl c.loop-index.invariant

pub returns : goal.returns
returns c = (
  λ h. absurd (false≢true h),
  λ found. absurd (unused_all c.args.game.now c.args.thing c.loop-index.index c.positions-index-end.ensures.lawful.numbered (omega arith) c.loop-index.invariant found),
)
