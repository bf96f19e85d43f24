-- The state of the hall is as it was.
use Rattle.std.proofs.Common.{◌≡◌}
use Rattle.rbg_hosting.proofs.going_on.keep_again.Given as goal

abbrev pub invariant-loop-index : goal.invariant-loop-index
invariant-loop-index g l = record {
  state : l.hall.state ≡ l.initial.hall.state;
  failed : l.hall.failed ≡ l.initial.hall.failed;
}
