-- There are as many lines as seats.
use Rattle.std.proofs.Common.{length, ap, ◌∙◌}
use Rattle.std.proofs.lemmas.List.{with_items_is}
use Rattle.rbg_network.proofs.gathering.gather.Goals as goal

pub returns : goal.returns
returns g c =
    let lent = c.as_mut_slice.ensures in
    let back = with_items_is c.in_ok-taken.taken c.fill.new.seats (c.fill.auto.seats ∙ lent.len) in
    let seats = ap length back ∙ c.fill.auto.seats ∙ ap length lent.value ∙ c.in_ok-taken.ensures in
    rw seats at c.lines_of.ensures
