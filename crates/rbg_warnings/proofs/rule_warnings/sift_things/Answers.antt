-- One number after the other.
use Rattle.std.proofs.Common.{arith}
use Rattle.rbg_warnings.specs.declared.warning.Warning.TheVariants.{Unused}
use Rattle.rbg_warnings.specs.internal.Kinds.{thing_of}
use Rattle.rbg_warnings.proofs.Sifting.{sifts_all, sifts_none, sifts_more}
use Rattle.rbg_warnings.proofs.rule_warnings.sift_things.Goals as goal

pub loop-index-init : goal.loop-index-init
loop-index-init c = sifts_none _ _

pub loop-index-preserved : goal.loop-index-preserved
loop-index-preserved c = sifts_more _ (λ n. Unused (thing_of c.args.kind n)) c.args.first c.loop-index.index _ _ _ _ (omega arith) c.loop-index.invariant (rw c.thing_of.ensures at c.in_ok-sift_thing.ensures)

pub returns : goal.returns
returns c = sifts_all _ (λ n. Unused (thing_of c.args.kind n)) c.args.first _ c.args.count _ _ (omega arith) c.loop-index.invariant
