use Rattle.std.proofs.Common.{[]}
use Rattle.std.proofs.lemmas.List.{map-append, replicate_more}
use Rattle.rbg_match.proofs.outbox.Outbox.new.Goals as goal

pub loop-preserved : goal.loop-preserved
loop-preserved c = rw (c.in_ok-push.ensures.items, map-append, c.loop.invariant, c.new.ensures.items) (replicate_more c.loop.counter [])
