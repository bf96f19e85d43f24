-- Each turn adds what one more part becomes.
use Rattle.std.proofs.Common.{arith}
use Rattle.rbg_import.proofs.Rewriting.{adds_all, adds_more, adds_none}
use Rattle.rbg_import.proofs.comments.push_rewritten.Goals as goal

pub loop-at-init : goal.loop-at-init
loop-at-init c = adds_none _ _

pub loop-at-preserved : goal.loop-at-preserved
loop-at-preserved c = adds_more _ _ _ _ _ _ c.loop-at.invariant c.part_at-part.ensures c.in_ok-push_part.ensures

pub returns : goal.returns
returns c = adds_all _ _ _ _ c.loop-at.invariant (omega arith)
