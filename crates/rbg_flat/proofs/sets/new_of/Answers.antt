use Rattle.rbg_base.proofs.Common.{◌≡◌, ℕ, ◌^◌, ◌<◌, ◌⊎◌, inl, inr, arith, bit_and, bit_at, bit_not, w64, cases_lt, bit_at-lt, bit_at_not, bit_at_above}
use Rattle.rbg_flat.proofs.Passings.{bit_of_second}
use Rattle.rbg_flat.proofs.WordLemmas.{bit_of_first, left_or_taken, new_sum, new_fits}
use Rattle.rbg_flat.proofs.sets.new_of.Goals as goal

pub returns-clause-only : goal.returns-clause-only
returns-clause-only c = λ b set. bit_of_first c.args.word (bit_not w64 c.args.known) b set

other_way : {A B : Type 0} → A ⊎ B → B ⊎ A
other_way (inl x) = inr x
other_way (inr y) = inl y

pub returns-clause-all : goal.returns-clause-all
returns-clause-all c = λ b small set. other_way (left_or_taken c.args.word c.args.known b c.ranges.known.fits small set)

pub returns-clause-sum : goal.returns-clause-sum
returns-clause-sum c = new_sum c.args.word c.args.known c.ranges.known.fits

pub returns-clause-fits : goal.returns-clause-fits
returns-clause-fits c = new_fits c.args.word c.args.known c.ranges.word.fits c.ranges.known.fits

fresh_bit : (word known b : ℕ) → word < 2 ^ 64 → known < 2 ^ 64 → bit_at (bit_and word (bit_not w64 known)) b ≡ 1 → bit_at known b ≡ 0
fresh_bit word known b small fits set = elim (cases_lt b 64) [
  | inl below ↦
      let other = bit_at_not w64 known b fits below in
      let second = bit_of_second word (bit_not w64 known) b set in
      let one = bit_at-lt known b in
      omega (arith, other, second, one)
  | inr above ↦
      let first = bit_of_first word (bit_not w64 known) b set in
      let none = bit_at_above word 64 b small above in
      absurd (omega (arith, first, none))
]

pub returns-clause-fresh : goal.returns-clause-fresh
returns-clause-fresh c = λ b set. fresh_bit c.args.word c.args.known b c.ranges.word.fits c.ranges.known.fits set
