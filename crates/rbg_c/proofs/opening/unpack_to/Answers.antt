-- The state at the place of the bytes is kept.
use Rattle.std.specs.Prelude.{Option, IfSome}
use Rattle.std.proofs.Common.{subst}
use Rattle.rbg_c.specs.States.{AbstractState, Unpacks}
use Rattle.rbg_c.specs.Opening.{unpacked}
use Rattle.rbg_c.proofs.opening.unpack_to.Goals as goal

pub returns-in-Ok-Some : goal.returns-in-Ok-Some
returns-in-Ok-Some c =
    unpacked (subst (λ (o : Option AbstractState). IfSome o (Unpacks c.args.state.now c.args.bytes.now)) c.in-Ok-Some.field-0-is c.in-Ok-Some.ensures.unpacked) c.keep.ensures
