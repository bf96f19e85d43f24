-- The text so far is that of the items so far.
use Rattle.std.proofs.Common.{◌≡◌, ◌++◌, take, flat_map}
use Rattle.rbg_questions.specs.Answers.{counted_text}
use Rattle.rbg_questions.specs.Chance.{counted_by}
use Rattle.rbg_questions.proofs.answer_writer.put_tallies.Given as goal

abbrev pub invariant-loop-tally : goal.invariant-loop-tally
invariant-loop-tally l = l.out.items ≡ l.fn.out.items ++ flat_map (λ tally. counted_text (counted_by tally)) (take l.tally-index l.tallies)
