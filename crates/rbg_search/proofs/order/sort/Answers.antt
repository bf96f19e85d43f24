use Rattle.std.proofs.Common.{arith}
use Rattle.rbg_search.proofs.Orders.{sorted_differ}
use Rattle.rbg_search.proofs.order.sort.Goals as goal

pub returns-then-len-gt1-clause-order : goal.returns-then-len-gt1-clause-order
returns-then-len-gt1-clause-order c =
    sorted_differ c.args.pairs.now.items c.sort_unstable.new.self.items c.sort_unstable.ensures.permutation c.sort_unstable.ensures.sorted c.requires

pub returns-else-len-gt1-clause-order : goal.returns-else-len-gt1-clause-order
returns-else-len-gt1-clause-order c = λ i j d less under. absurd (omega (arith, less, under, c.if-len-gt1.false))
