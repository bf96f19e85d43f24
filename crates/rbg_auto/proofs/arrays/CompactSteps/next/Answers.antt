-- The proof of `next` of `arrays::Compact`.
use Rattle.rbg_auto.specs.internal.Compacts.{IsCompactOf}
use Rattle.rbg_auto.proofs.arrays.CompactSteps.next.Goals as goal

pub returns : goal.returns
returns c = λ rules is. let h : IsCompactOf c.args.self.now rules = is in rw c.list.ensures (rw c.node.ensures.node (h.steps.next_of c.args.position))
