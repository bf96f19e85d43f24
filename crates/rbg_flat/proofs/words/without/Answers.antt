use Rattle.rbg_base.proofs.Common.{◌≡◌, ◌≢◌, ℕ, ◌*◌, ◌^◌, ◌%◌, ◌<◌, ◌≤◌, ap, sym, ◌∙◌, inl, inr, arith, bit_and, bit_at, bit_not, w64, cases_lt, and_le_l, bit_at_clear_same, bit_at_clear_other, bit_at_above}
use Rattle.rbg_flat.proofs.WordLemmas.{bit_of_first}
use Rattle.rbg_flat.proofs.words.without.Goals as goal

pub returns-clause-gone : goal.returns-clause-gone
returns-clause-gone c = bit_at_clear_same w64 c.args.word c.args.bit c.requires

pub returns-clause-only : goal.returns-clause-only
returns-clause-only c = λ b set. bit_of_first c.args.word (bit_not w64 (1 * 2 ^ c.args.bit % 2 ^ 64)) b set

other_bits : (word bit : ℕ) → word < 2 ^ 64 → bit < 64 → (b : ℕ) → b ≢ bit → bit_at (bit_and word (bit_not w64 (1 * 2 ^ bit % 2 ^ 64))) b ≡ bit_at word b
other_bits word bit fits small b other = elim (cases_lt b 64) [
  | inl below ↦ bit_at_clear_other w64 word bit small b below other
  | inr above ↦
      let most = and_le_l word (bit_not w64 (1 * 2 ^ bit % 2 ^ 64)) in
      bit_at_above (bit_and word (bit_not w64 (1 * 2 ^ bit % 2 ^ 64))) 64 b (omega (arith, most, fits)) above ∙ sym (bit_at_above word 64 b fits above)
]

pub returns-clause-others : goal.returns-clause-others
returns-clause-others c = λ b other. other_bits c.args.word c.args.bit c.ranges.word.fits c.requires b other

less : (word rest bit : ℕ) → rest ≤ word → bit_at rest bit ≡ 0 → bit_at word bit ≡ 1 → rest < word
less word rest bit most none set = elim (cases_lt rest word) [
  | inl below ↦ below
  | inr above ↦
      let same : rest ≡ word = omega (arith, most, above) in
      let both : bit_at rest bit ≡ bit_at word bit = ap (λ (n : ℕ). bit_at n bit) same in
      absurd (omega (arith, none, set, both))
]

pub returns-clause-less : goal.returns-clause-less
returns-clause-less c = λ set. less c.args.word _ c.args.bit (and_le_l c.args.word (bit_not w64 (1 * 2 ^ c.args.bit % 2 ^ 64))) (bit_at_clear_same w64 c.args.word c.args.bit c.requires) set
