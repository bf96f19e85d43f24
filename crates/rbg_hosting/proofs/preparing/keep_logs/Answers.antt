-- A log changes nothing of the state of the hall.
use Rattle.std.proofs.Common.{ap, ◌∙◌}
use Rattle.rbg_hall.specs.Failing.{HeldHall}
use Rattle.rbg_hosting.proofs.preparing.keep_logs.Goals as goal

pub loop-index-preserved : goal.loop-index-preserved
loop-index-preserved g c = record {
  state = ap (λ (one : HeldHall _). one.state) c.keep.ensures ∙ c.loop-index.invariant.state;
  failed = ap (λ (one : HeldHall _). one.failed) c.keep.ensures ∙ c.loop-index.invariant.failed;
}
