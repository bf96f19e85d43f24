use Rattle.std.proofs.Common.{ap, subst, arith, length-drop, ◌≤◌, length, ◌+◌}
use Rattle.rbg_serving.proofs.Common.{Tells, has_taken}
use Rattle.rbg_serving.proofs.PassingLemmas.{took_more, rest_is}
use Rattle.rbg_serving.proofs.passing.pass_to.Goals as goal

pub loop-state-preserved : goal.loop-state-preserved
loop-state-preserved g c =
    let bytes = c.args.bytes.now in
    let taken = c.loop-state.state.taken in
    let within : taken + c.in-Took.count ≤ length bytes =
    omega (arith, c.in-Took.ensures.fits, c.loop-state-test.true, ap length (rest_is bytes taken), length-drop taken bytes) in (
      λ _. within,
      c.loop-state.invariant.1,
      omega (arith, c.loop-state.invariant.2),
      λ before at_first.
          subst (Tells g.L.Line.told g.L.Line.failure_count c.put.new.self) (took_more before bytes taken c.in-Took.count c.in-Took.count-test.1)
          (c.in-Took.ensures.told (has_taken before bytes taken) (c.loop-state.invariant.3 before at_first)),
    )
