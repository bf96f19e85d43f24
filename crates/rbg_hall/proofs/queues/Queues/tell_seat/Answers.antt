use Rattle.std.proofs.Common.{sym}
use Rattle.rbg_hall.proofs.Telling.{told_to-none}
use Rattle.rbg_hall.proofs.queues.Queues.tell_seat.Goals as goal

pub returns-in-None-clause-told : goal.returns-in-None-clause-told
returns-in-None-clause-told c = rw c.in-None.is (sym (told_to-none c.args.self.now.queued))
