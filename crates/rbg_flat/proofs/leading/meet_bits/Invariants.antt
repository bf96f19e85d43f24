-- The positions so far were met.
use Rattle.std.proofs.Common.{take}
use Rattle.rbg_flat.proofs.Common.{IsAmongBits, IsToTryIn, Meets}
use Rattle.rbg_flat.proofs.leading.meet_bits.Given as goal

abbrev pub invariant-loop-position : goal.invariant-loop-position
invariant-loop-position l = Meets l.fn.sets l.sets (IsAmongBits (take l.position-index l.positions) l.column l.bits) (IsToTryIn l.setting)
