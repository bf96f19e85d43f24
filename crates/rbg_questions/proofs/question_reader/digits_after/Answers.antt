-- What stands after the word isn't all digits.
use Rattle.std.proofs.Common.{sym, subst}
use Rattle.std.proofs.lemmas.Bool.{false≢true}
use Rattle.rbg_questions.specs.Questions.{AreHexDigits}
use Rattle.rbg_questions.proofs.Reading.{after_word}
use Rattle.rbg_questions.proofs.question_reader.digits_after.Goals as goal

pub returns-then-not-are_hex_digits-clause-none : goal.returns-then-not-are_hex_digits-clause-none
returns-then-not-are_hex_digits-clause-none c digits has is =
    false≢true (c.if-not-are_hex_digits.ensures.1 (subst AreHexDigits (sym (after_word _ _ _ _ c.in_ok-digits.ensures.found is)) has))
