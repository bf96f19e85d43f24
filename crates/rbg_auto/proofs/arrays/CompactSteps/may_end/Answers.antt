-- The proof of `may_end` of `arrays::Compact`.
use Rattle.rbg_auto.specs.internal.Compacts.{IsCompactOf}
use Rattle.rbg_auto.proofs.arrays.CompactSteps.may_end.Goals as goal

pub returns : goal.returns
returns c = λ rules is. let h : IsCompactOf c.args.self.now rules = is in rw c.node.ensures.node (h.steps.ends c.args.position)
