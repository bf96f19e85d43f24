-- Each seat adds a line.
use Rattle.std.proofs.Common.{◌+◌, length, ap, sym, ◌∙◌}
use Rattle.std.proofs.lemmas.Iterator.Adapters.{YieldsList-from_vec}
use Rattle.std.proofs.lemmas.Iterator.Consumers.{YieldsList-end}
use Rattle.std.proofs.lemmas.List.{length_push}
use Rattle.rbg_network.proofs.gathering.lines_of.Goals as goal

pub loop-seat-preserved : goal.loop-seat-preserved
loop-seat-preserved g c =
    ap length c.in_ok-push-in-Some-seat.ensures.items
    ∙ length_push _ _
    ∙ ap (λ n. n + 1) c.loop-seat.invariant
    ∙ sym (length_push _ _)

pub returns : goal.returns
returns g c =
    let seats = c.into_iter-seat-iterator.ensures.into_iter_gives in
    let seen = YieldsList-end (YieldsList-from_vec c.args.seats.items seats.0 (seats.1 ∙ c.args.seats.ok.0)) c.loop-seat.yielded _ c.loop-seat.yielded_by _ c.next.new.self c.in-None.is c.next.ensures.steps in
    c.loop-seat.invariant ∙ seen.1
