-- The bytes are put, or there was no memory.
use Rattle.std.proofs.Common.{◌∙◌}
use Rattle.rbg_c.specs.Filling.FillsMade.{made}
use Rattle.rbg_c.proofs.filling.fill_packed.Goals as goal

pub returns-in-Ok : goal.returns-in-Ok
returns-in-Ok c = made (rw (c.as_slice.ensures.value ∙ c.in-Ok.ensures) at c.fill.ensures)
