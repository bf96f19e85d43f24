-- There are as many lines as places.
use Rattle.std.proofs.Common.{length, ap, ◌∙◌}
use Rattle.std.proofs.lemmas.List.{with_items_is}
use Rattle.rbg_network.proofs.seating.seat_players.Goals as goal

pub returns : goal.returns
returns g c =
    let lent = c.as_mut_slice.ensures in
    let back = with_items_is c.in_ok-taken.taken c.fill_places.new.taken (c.fill_places.auto.taken ∙ lent.len) in
    let places = ap length back ∙ c.fill_places.auto.taken ∙ ap length lent.value ∙ c.in_ok-taken.ensures in
    rw places at c.lines_of.ensures
