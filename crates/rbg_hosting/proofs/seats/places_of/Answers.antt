-- The places of one match more, and of all.
use Rattle.std.proofs.Common.{◌∙◌, arith}
use Rattle.rbg_hosting.proofs.SeatLemmas.{all_placed, none_placed, one_placed}
use Rattle.rbg_hosting.proofs.seats.places_of.Goals as goal

pub loop-index-init : goal.loop-index-init
loop-index-init g c = none_placed c.args.hall.now.state.tables c.args.players.now c.new-places.result.items c.new-places.ensures.items

pub loop-index-preserved : goal.loop-index-preserved
loop-index-preserved g c =
    one_placed c.args.hall.now.state.tables c.args.players.now c.loop-index.index c.count_at-count.result c.place_of.result c.loop-index.places.items c.add_places.new.places.items
    c.loop-index-test.true c.count_at-count.ensures c.place_of.ensures c.in_ok-add_places.ensures
    ∙ c.loop-index.invariant

pub returns : goal.returns
returns g c = all_placed c.args.hall.now.state.tables c.args.players.now c.loop-index.index c.loop-index.places.items (omega (arith, c.loop-index-test.false)) c.loop-index.invariant
