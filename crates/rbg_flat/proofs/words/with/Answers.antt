use Rattle.rbg_base.proofs.Common.{inl, inr}
use Rattle.rbg_shifts.proofs.Bits.{either_bit, first_bit, second_bit}
use Rattle.rbg_flat.proofs.words.with.Goals as goal

pub returns-clause-set : goal.returns-clause-set
returns-clause-set c = second_bit c.args.word c.unit_word.result c.args.bit c.unit_word.ensures.set

pub returns-clause-kept : goal.returns-clause-kept
returns-clause-kept c = λ b was. first_bit c.args.word c.unit_word.result b was

pub returns-clause-only : goal.returns-clause-only
returns-clause-only c = λ b is. elim (either_bit c.args.word c.unit_word.result b is) [
  | inl was ↦ inl was
  | inr here ↦ inr (c.unit_word.ensures.only b here)
]
