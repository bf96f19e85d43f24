use Rattle.rbg_hall.proofs.Ticking.{HaveTicked}
use Rattle.rbg_hall.proofs.hearing.tick.Given as goal

abbrev pub invariant-loop-index : goal.invariant-loop-index
invariant-loop-index g l = HaveTicked g.W.Log.told l.at l.index l.initial.tables l.tables l.initial.out l.out
