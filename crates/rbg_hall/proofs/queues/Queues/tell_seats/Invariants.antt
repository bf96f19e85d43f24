use Rattle.std.proofs.Common.{◌≡◌, take}
use Rattle.rbg_hall.proofs.TableCommon.{to_lines, told_to}
use Rattle.rbg_hall.proofs.queues.Queues.tell_seats.Given as goal

abbrev pub invariant-loop-index : goal.invariant-loop-index
invariant-loop-index l = record {
  told : l.self.queued ≡ told_to l.initial.self.queued (to_lines (take l.index l.seats) l.outbox);
  committed : l.self.committed ≡ l.initial.self.committed;
}
