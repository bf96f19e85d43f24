-- The text is a game's, or memory ran out, or a layer refuses it.
use Rattle.std.proofs.Common.{refl}
use Rattle.std.proofs.lemmas.Bool.{false≢true}
use Rattle.rbg_c.specs.Faults.{no_fault, is_fault}
use Rattle.rbg_c.proofs.faults.rbg_fault.Goals as goal

pub returns-in-Ok : goal.returns-in-Ok
returns-in-Ok c = no_fault c.in-Ok.ensures.game refl

pub returns-else-is_memory : goal.returns-else-is_memory
returns-else-is_memory c =
    is_fault c.in-Err.ensures.refused (λ lost. false≢true (c.if-is_memory.ensures.1 lost)) c.layer.ensures.number c.number_in.ensures c.offset_in.ensures
