use Rattle.rbg_match.proofs.Marking.{marks_of_items}
use Rattle.rbg_match.proofs.outbox.Outbox.marks.Goals as goal

pub returns : goal.returns
returns c = rw (← c.self.view_is) (marks_of_items c.self.inside.queues.items c.lengths.result (rw c.deref.ensures.value at c.lengths.ensures))
