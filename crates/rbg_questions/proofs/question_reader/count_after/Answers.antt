-- The number is what stands after the word.
use Rattle.rbg_base.proofs.Common.{subst, sym, ◌∙◌, arith, false≢true, decimal_injective}
use Rattle.rbg_questions.specs.Limits.{IsCount}
use Rattle.rbg_questions.proofs.Reading.{after_word}
use Rattle.rbg_questions.proofs.question_reader.count_after.Goals as goal

pub returns-in_err-count-clause-none : goal.returns-in_err-count-clause-none
returns-in_err-count-clause-none c =
    rw c.from_residual-in_err-count.ensures (λ count has is.
    c.in_err-count.ensures.none count (omega (arith, has.0, has.1)) (after_word _ _ _ _ c.in_ok-digits.ensures.found is))

-- the same digits are of the same number
pub returns-then-not-is_count-clause-none : goal.returns-then-not-is_count-clause-none
returns-then-not-is_count-clause-none c count has is =
    let found = c.in_ok-count.ensures.found in
    let same = decimal_injective count _ (omega (arith, has.0, has.1)) found.0 (sym (after_word _ _ _ _ c.in_ok-digits.ensures.found is) ∙ found.1) in
    false≢true (c.if-not-is_count.ensures.1 (subst IsCount same has))
