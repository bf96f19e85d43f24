-- The text so far is that of the items so far.
use Rattle.std.proofs.Common.{◌≡◌, ◌++◌, take, codes, decimal, flat_map}
use Rattle.rbg_questions.proofs.answer_writer.put_spaced_scores.Given as goal

abbrev pub invariant-loop-score : goal.invariant-loop-score
invariant-loop-score l = l.out.items ≡ l.fn.out.items ++ flat_map (λ score. decimal score ++ codes " ") (take l.score-index l.scores)
