use Rattle.rbg_wire.specs.Messages.{message_of}
use Rattle.rbg_match.proofs.Sayings.{queue_said}
use Rattle.rbg_match.proofs.outbox.Outbox.queue_message.Goals as goal

pub returns : goal.returns
returns c = rw (← c.self.view_is) (queue_said c.self.inside.queues.items c.args.seat (message_of c.args.message.now) c.index_mut.result.now c.write_message.new.out c.write_message.result c.requires.is_seat (rw c.self.view_is c.requires.is_there) c.index_mut.ensures.value c.write_message.ensures.ok c.write_message.ensures.err)
