-- The length so far is that of the items so far, and there was room for it.
use Rattle.rbg_macro.proofs.Filled.{FilledSoFar}
use Rattle.rbg_macro.proofs.filling.filled_len.Given as goal

abbrev pub invariant-loop-item : goal.invariant-loop-item
invariant-loop-item l = FilledSoFar l.body l.arguments l.item-index l.len l.room
