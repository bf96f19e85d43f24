-- The text so far is that of the items so far.
use Rattle.std.proofs.Common.{◌≡◌, ◌++◌, take}
use Rattle.rbg_questions.specs.Answers.{numbers_text}
use Rattle.rbg_questions.proofs.answer_writer.put_value_numbers.Given as goal

abbrev pub invariant-loop-value : goal.invariant-loop-value
invariant-loop-value l = l.out.items ≡ l.fn.out.items ++ numbers_text (take l.value-index l.values)
