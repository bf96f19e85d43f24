use Rattle.std.proofs.Common.{length}
use Rattle.rbg_hall.proofs.Taking.{HasTaken}
use Rattle.rbg_hall.proofs.hearing.say_each.Given as goal

abbrev pub invariant-loop-took : goal.invariant-loop-took
invariant-loop-took g l = HasTaken g.W.Log.told l.initial.table l.by.line l.by.at l.initial.inbox l.initial.out l.table l.inbox l.out

abbrev pub decreases-loop-took : goal.decreases-loop-took
decreases-loop-took g l = length l.inbox.items
