use Rattle.rbg_base.proofs.Common.{◌≡◌, ℕ, ◌*◌, ◌^◌, ◌%◌, ◌<◌, ◌∙◌, arith, bit_or, bit_at, w64, bit_at-zero, bit_at_set_other, bit_at_set_same, ℕ_discrete}
use Rattle.rbg_flat.proofs.words.unit_word.Goals as goal

only_bit : (bit : ℕ) → bit < 64 → (b : ℕ) → bit_at (bit_or 0 (1 * 2 ^ bit % 2 ^ 64)) b ≡ 1 → b ≡ bit
only_bit bit within b set = elim (ℕ_discrete b bit) [
  | yes same ↦ same
  | no other ↦
      let none = bit_at_set_other w64 0 bit within b other ∙ bit_at-zero b in
      absurd (omega (arith, set, none))
]

pub returns-clause-only : goal.returns-clause-only
returns-clause-only c = only_bit c.args.bit c.requires

pub returns-clause-set : goal.returns-clause-set
returns-clause-set c = bit_at_set_same w64 0 c.args.bit c.requires
