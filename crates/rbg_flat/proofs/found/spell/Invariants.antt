-- The words so far are written.
use Rattle.std.proofs.Common.{◌≡◌, ◌++◌, take}
use Rattle.rbg_flat.specs.internal.Bits.{pairs_in}
use Rattle.rbg_flat.proofs.found.spell.Given as goal

abbrev pub invariant-loop-word : goal.invariant-loop-word
invariant-loop-word l = l.pairs.items ≡ l.fn.pairs.items ++ pairs_in (take l.word-index l.words)
