-- Both are handed out, or there is no room or no memory.
use Rattle.std.proofs.Common.{arith}
use Rattle.rbg_c.proofs.ByChance.{both_out, not_kept}
use Rattle.rbg_c.proofs.chance.hand_out.Goals as goal

pub returns-then-kept-ne-OK : goal.returns-then-kept-ne-OK
returns-then-kept-ne-OK c = not_kept _ _ _ _ _ _ _ c.keep-kept.ensures c.if-kept-ne-OK.true

pub returns : goal.returns
returns c = both_out _ _ _ _ _ _ _ _ _ _ c.keep-kept.ensures c.if-kept-ne-OK.false c.as_slice.ensures.value (λ small. omega (arith, small, c.if-buffer-count.false, c.len-count.ensures)) c.fill.ensures
