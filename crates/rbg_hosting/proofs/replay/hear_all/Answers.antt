-- One more event is heard, or the hall stops there.
use Rattle.rbg_hosting.proofs.PastLemmas.{one_heard, stopped_at}
use Rattle.rbg_hosting.proofs.replay.hear_all.Goals as goal

pub loop-event-preserved : goal.loop-event-preserved
loop-event-preserved g c starts matches earlier so_far =
    one_heard earlier c.args.events.now c.loop-event.event-index _ c.loop-event-test.true (c.loop-event.invariant starts matches earlier so_far) c.in-Ok.ensures.hears

pub returns-in-Err : goal.returns-in-Err
returns-in-Err g c starts matches earlier so_far =
    stopped_at c.args.events.now c.loop-event.event-index (c.loop-event.invariant starts matches earlier so_far) c.in-Err.ensures.stops
