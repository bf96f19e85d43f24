-- The text so far is that of the items so far.
use Rattle.std.proofs.Common.{◌≡◌, ◌++◌, take}
use Rattle.rbg_questions.specs.Answers.{numbers_text}
use Rattle.rbg_questions.proofs.answer_writer.put_scores.Given as goal

abbrev pub invariant-loop-score : goal.invariant-loop-score
invariant-loop-score l = l.out.items ≡ l.fn.out.items ++ numbers_text (take l.score-index l.scores)
