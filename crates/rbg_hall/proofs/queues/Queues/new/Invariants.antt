use Rattle.std.proofs.Common.{◌≡◌, [], map, replicate}
use Rattle.rbg_hall.proofs.queues.Queues.new.Given as goal

abbrev pub invariant-loop : goal.invariant-loop
invariant-loop l = map (λ queue. queue.items) l.bytes.items ≡ replicate l.counter []
