-- Sorted moves that differ stand in order.
use Rattle.rbg_moves.proofs.Order.{in_order, still_different}
use Rattle.rbg_moves.proofs.list.sort.Goals as goal

pub returns-clause-order : goal.returns-clause-order
returns-clause-order c = in_order c.sort_unstable.new.self.items c.sort_unstable.ensures.sorted (still_different c.args.moves.now.items c.sort_unstable.new.self.items c.sort_unstable.ensures.permutation c.requires)
