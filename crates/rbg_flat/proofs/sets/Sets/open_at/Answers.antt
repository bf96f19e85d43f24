use Rattle.rbg_base.proofs.Common.{◌≡◌, ℕ, ◌<◌, ◌^◌, inl, inr, arith, bit_at, cases_lt, bit_at_above}
use Rattle.rbg_flat.proofs.PlaceLemmas.{taken_there}
use Rattle.rbg_flat.proofs.sets.Sets.open_at.Goals as goal

small_bit : (word b : ℕ) → word < 2 ^ 64 → bit_at word b ≡ 1 → b < 64
small_bit word b fits set = elim (cases_lt b 64) [
  | inl below ↦ below
  | inr above ↦ let none = bit_at_above word 64 b fits above in absurd (omega (arith, none, set))
]

pub returns-clause-there : goal.returns-clause-there
returns-clause-there c = λ b set.
    let small = small_bit c.word.result b c.word.type_inv set in
    (small, (taken_there c.self.view_is c.args.place c.args.position c.args.column c.requires.at c.requires.column c.self.invariant c.word.result b small set c.word.ensures).1)

pub returns-clause-open : goal.returns-clause-open
returns-clause-open c = λ b set.
    (taken_there c.self.view_is c.args.place c.args.position c.args.column c.requires.at c.requires.column c.self.invariant c.word.result b (small_bit c.word.result b c.word.type_inv set) set c.word.ensures).0
