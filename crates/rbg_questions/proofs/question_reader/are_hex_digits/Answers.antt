-- There is a digit, and nothing but digits.
use Rattle.std.proofs.Common.{◌∙◌, sym}
use Rattle.rbg_questions.proofs.Reading.{some_bytes}
use Rattle.rbg_questions.proofs.question_reader.are_hex_digits.Goals as goal

pub returns-then-not-is_empty : goal.returns-then-not-is_empty
returns-then-not-is_empty c =
    (λ yes. (some_bytes _ (sym c.is_empty.ensures ∙ c.if-not-is_empty.true), sym c.are_all_hex_digits.ensures ∙ yes), λ both. c.are_all_hex_digits.ensures ∙ both.1)
