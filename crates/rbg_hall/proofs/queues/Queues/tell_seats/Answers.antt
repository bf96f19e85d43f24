use Rattle.std.proofs.Common.{◌≡◌, ◌+◌, ◌-◌, [], get_or, arith, refl, sym, ◌∙◌}
use Rattle.rbg_hall.proofs.Telling.{told_to-none, told_more}
use Rattle.rbg_hall.proofs.queues.Queues.tell_seats.Goals as goal

pub loop-index-init : goal.loop-index-init
loop-index-init c = record { told = sym (told_to-none c.args.self.now.queued); committed = refl }

pub loop-index-preserved : goal.loop-index-preserved
loop-index-preserved c =
    let same : c.loop-index.index + 1 - 1 ≡ c.loop-index.index = omega arith in
    let got : c.bytes.result.now ≡ get_or c.args.outbox.now c.loop-index.index [] = rw same at c.bytes.ensures in
    record {
      told = told_more c.args.self.now.queued c.loop-index.self.queued c.tell_seat.new.self.queued c.args.seats.now c.args.outbox.now c.loop-index.index _ c.requires c.loop-index-test.true c.loop-index.invariant.told (rw got at c.in_ok-tell_seat.ensures.told);
      committed = c.tell_seat.ensures.committed ∙ c.loop-index.invariant.committed;
    }
