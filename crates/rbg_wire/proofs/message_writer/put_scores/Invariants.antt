-- The text so far is that of the scores so far.
use Rattle.std.proofs.Common.{◌≡◌, ◌++◌, codes, decimal, take, flat_map}
use Rattle.rbg_wire.proofs.message_writer.put_scores.Given as goal

abbrev pub invariant-loop-score : goal.invariant-loop-score
invariant-loop-score l = l.out.items ≡ l.fn.out.items ++ flat_map (λ score. codes " " ++ decimal score) (take l.score-index l.scores)
