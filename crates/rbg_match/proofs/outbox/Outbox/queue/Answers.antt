use Rattle.rbg_match.proofs.Sayings.{queue_said}
use Rattle.rbg_match.proofs.outbox.Outbox.queue.Goals as goal

pub returns : goal.returns
returns c = λ message is.
    rw (← c.self.view_is) (queue_said c.self.inside.queues.items c.args.seat message c.index_mut.result.now c.append.new.queue c.append.result c.requires.is_seat (rw c.self.view_is c.requires.is_there) c.index_mut.ensures.value (rw is at c.append.ensures.ok) c.append.ensures.err)
