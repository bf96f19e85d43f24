-- One more player asks.
use Rattle.std.proofs.Common.{◌∙◌, ◌++◌, ◌∷◌, ◌+◌, [], ap, map}
use Rattle.std.proofs.lemmas.List.{map-append}
use Rattle.rbg_script.specs.Events.{event_of, piece}
use Rattle.rbg_hosting.proofs.PastLemmas.{asked_more}
use Rattle.rbg_hosting.proofs.replay.add_asking.Goals as goal

pub loop-index-preserved : goal.loop-index-preserved
loop-index-preserved c =
    let asks = piece (c.args.seats.line + c.loop-index.index) c.args.at c.args.asked.now ∷ [] in
    ap (map event_of) c.in_ok-push.ensures.items
    ∙ map-append event_of c.loop-index.events.items _
    ∙ ap (λ events. events ++ asks) c.loop-index.invariant
    ∙ asked_more c.args.seats.line c.args.at c.args.asked.now c.loop-index.index (map event_of c.args.events.now.items)
