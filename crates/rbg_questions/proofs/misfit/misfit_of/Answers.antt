-- The line is empty, or ends in a carriage return, or begins with a word or with none.
use Rattle.std.proofs.Common.{◌∷◌, [], ◌++◌, ◌∙◌, sym, ap, ℕ}
use Rattle.rbg_questions.specs.Misfits.{is_question_word, no_byte, returns, no_word, no_form}
use Rattle.rbg_questions.proofs.Misfits.{last_of_return, no_end, nothing_of}
use Rattle.rbg_questions.proofs.misfit.misfit_of.Goals as goal

pub returns-in_default : goal.returns-in_default
returns-in_default c = no_byte (nothing_of _ c.in_default.ensures.cases)

pub returns-then-last-eq13 : goal.returns-then-last-eq13
returns-then-last-eq13 c =
    returns (record {
      front = c.in-Some.field-0-1.now;
      is = c.in-Some.ensures.cases.0 ∙ ap (λ (byte : ℕ). c.in-Some.field-0-1.now ++ byte ∷ []) c.if-last-eq13.true;
    })

pub returns-then-is_word : goal.returns-then-is_word
returns-then-is_word c =
    no_form (λ ends. c.if-last-eq13.false (last_of_return _ _ _ _ c.in-Some.ensures.cases.0 ends.is))
    (ap is_question_word (sym c.first_word.ensures) ∙ (sym c.is_word.ensures ∙ c.if-is_word.true))

pub returns-else-is_word : goal.returns-else-is_word
returns-else-is_word c =
    no_word (λ empty. no_end _ _ (sym empty ∙ c.in-Some.ensures.cases.0)) (λ ends. c.if-last-eq13.false (last_of_return _ _ _ _ c.in-Some.ensures.cases.0 ends.is))
    (ap is_question_word (sym c.first_word.ensures) ∙ (sym c.is_word.ensures ∙ c.if-is_word.false))
