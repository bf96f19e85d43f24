-- What isn't left is written.
use Rattle.rbg_base.proofs.Common.{◌≡◌, ◌++◌, ℕ, bit_at}
use Rattle.rbg_flat.specs.internal.Bits.{pairs_of}
use Rattle.rbg_flat.proofs.Spellings.{with_bits}
use Rattle.rbg_flat.proofs.found.spell_word.Given as goal

abbrev pub invariant-loop-rest : goal.invariant-loop-rest
invariant-loop-rest l = record {
  rest_in : (b : ℕ) → bit_at l.rest b ≡ 1 → bit_at l.word.bits b ≡ 1;
  written : l.pairs.items ++ pairs_of (with_bits l.word l.rest) ≡ l.fn.pairs.items ++ pairs_of l.word;
}

abbrev pub decreases-loop-rest : goal.decreases-loop-rest
decreases-loop-rest l = l.rest
