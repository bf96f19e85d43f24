-- The copy is kept, or no move is made.
use Rattle.std.proofs.Common.{refl}
use Rattle.rbg_c.specs.Playouts.{plays_copy, fails}
use Rattle.rbg_c.proofs.chance.play_copy.Goals as goal

pub returns-in-Ok : goal.returns-in-Ok
returns-in-Ok c = plays_copy refl c.in-Ok.ensures.played.plays c.moves_made.ensures.count c.keep.ensures

pub returns-in-Err : goal.returns-in-Err
returns-in-Err c = fails refl refl (record { refusal = c.in-Err.refusal; why = c.in-Err.ensures.stuck; is = c.number.ensures.number })
