use Rattle.std.proofs.Common.{refl, arith}
use Rattle.rbg_shifts.proofs.Cases.{not_both}
use Rattle.rbg_shifts.proofs.Fillings.{if_back, rightly_more, rightly_up_to}
use Rattle.rbg_shifts.proofs.filling.fill_again.Goals as goal

pub returns-then-not-repeats-clause-closed : goal.returns-then-not-repeats-clause-closed
returns-then-not-repeats-clause-closed c = λ one_way v below.
    c.in_ok-fill_forwards.ensures.closed (c.repeats.ensures.back refl c.if-not-repeats.true) v below

pub returns-in_ok-fill_forwards-2-clause-fills : goal.returns-in_ok-fill_forwards-2-clause-fills
returns-in_ok-fill_forwards-2-clause-fills c =
    rightly_more c.args.ground.now c.args.lists.now c.args.table.now c.fill_backwards.new.table c.fill_forwards-then-repeats.new.table c.args.node c.in_ok-fill_backwards.ensures.fills
    (rightly_up_to c.args.ground.now c.args.lists.now c.fill_backwards.new.table c.fill_forwards-then-repeats.new.table c.args.node _ c.in_ok-fill_forwards-2.ensures)

pub returns-in_ok-fill_forwards-2-clause-closed : goal.returns-in_ok-fill_forwards-2-clause-closed
returns-in_ok-fill_forwards-2-clause-closed c = λ one_way v below.
    c.in_ok-fill_forwards-2.ensures.closed
    (if_back c.args.ground.now c.args.lists.now c.args.node one_way (λ forth. not_both c.if-repeats.true (c.repeats-2.ensures.none refl forth)))
    v below

pub returns-else-repeats-clause-closed : goal.returns-else-repeats-clause-closed
returns-else-repeats-clause-closed c = λ one_way v below.
    c.in_ok-fill_backwards.ensures.closed (c.repeats-2.ensures.forth refl c.if-repeats.false) v below (omega arith)
