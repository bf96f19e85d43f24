use Rattle.std.proofs.Common.{sym}
use Rattle.rbg_wire.specs.Inboxes.{item_of}
use Rattle.rbg_hall.proofs.Taking.{next_whole, none_taken, on_error, one_taken, stops_taking}
use Rattle.rbg_hall.proofs.hearing.say_each.Goals as goal

pub loop-took-init : goal.loop-took-init
loop-took-init g c = none_taken g.W.Log.told c.args.table.now c.args.by.line c.args.by.at c.args.inbox.now c.args.out.now

pub loop-took-preserved : goal.loop-took-preserved
loop-took-preserved g c = one_taken c.take.follows.lender-at-none (item_of c.in-Some.took) c.loop-took.invariant (sym c.in-Some.ensures.item) c.take.follows.holds-at-none c.in_ok-hear.ensures.hears c.hear.ensures.committed

pub returns-in_err-hear-clause-stops : goal.returns-in_err-hear-clause-stops
returns-in_err-hear-clause-stops g c = on_error _ (stops_taking c.loop-took.invariant c.in_err-hear.ensures.fails)

pub hear-requires : goal.hear-requires
hear-requires g c = next_whole (item_of c.in-Some.took) c.loop-took.invariant c.requires (sym c.in-Some.ensures.item)
