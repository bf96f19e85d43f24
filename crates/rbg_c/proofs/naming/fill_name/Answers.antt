-- The name is put into the buffer, if there is room.
use Rattle.rbg_c.proofs.Filled.{named}
use Rattle.rbg_c.proofs.naming.fill_name.Goals as goal

pub returns-in-Some : goal.returns-in-Some
returns-in-Some c = named _ _ _ _ _ _ _ _ _ _ c.game.ensures.game c.as_bytes.ensures.value c.in-Some.ensures c.fill.ensures
