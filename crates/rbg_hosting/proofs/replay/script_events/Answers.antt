-- The players ask, and then come the script's events.
use Rattle.rbg_hosting.specs.Pasts.{heard_on}
use Rattle.rbg_hosting.proofs.PastLemmas.{script_added}
use Rattle.rbg_hosting.proofs.replay.script_events.Goals as goal

pub returns : goal.returns
returns c =
    script_added c.new-events.result.items c.add_asking.new.events.items c.add_events.new.events.items _ c.as_slice.result.now c.args.heard.script.now.events.items (heard_on c.args.seats.line c.args.seats.players)
    c.new-events.ensures.items c.in_ok-add_asking.ensures c.in_ok-add_events.ensures c.as_slice.ensures.value
