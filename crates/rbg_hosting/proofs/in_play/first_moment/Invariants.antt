-- The first of the last moments of the first matches.
use Rattle.rbg_hosting.specs.internal.Moments.{IsFirst}
use Rattle.rbg_hosting.proofs.in_play.first_moment.Given as goal

abbrev pub invariant-loop-index : goal.invariant-loop-index
invariant-loop-index g l = IsFirst l.hall.state.tables l.index l.first
