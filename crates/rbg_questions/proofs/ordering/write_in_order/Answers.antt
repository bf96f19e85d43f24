-- The moves that are written are in order.
use Rattle.std.proofs.Common.{map}
use Rattle.rbg_questions.proofs.ordering.write_in_order.Goals as goal

pub returns-clause-written : goal.returns-clause-written
returns-clause-written c = record {
  ordered = map (λ m. m.now) c.in_ok-ordered.ordered.items;
  is = c.in_ok-ordered.ensures;
  told = rw c.as_slice.ensures.value at c.in_ok-write_moves.ensures.ok;
}
