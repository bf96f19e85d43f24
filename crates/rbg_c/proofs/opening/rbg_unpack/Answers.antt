-- The state is kept, or there is no such place, or there was no memory.
use Rattle.std.proofs.Common.{subst}
use Rattle.rbg_c.specs.States.{AbstractState}
use Rattle.rbg_c.specs.Opening.{UnpacksAt, there}
use Rattle.rbg_c.proofs.opening.rbg_unpack.Goals as goal

pub returns-in-Some-clause-to : goal.returns-in-Some-clause-to
returns-in-Some-clause-to c =
    there c.in-Some.ensures.taken
    (subst (λ (s : AbstractState). UnpacksAt s c.args.bytes.now c.args.to.now.value c.unpack_to-result.new.to.value c.unpack_to-result.result) c.deref.ensures c.unpack_to-result.ensures)
