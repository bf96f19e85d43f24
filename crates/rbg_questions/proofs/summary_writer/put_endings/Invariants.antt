-- The text so far is that of the endings so far.
use Rattle.std.proofs.Common.{◌≡◌, ◌++◌, map, take, flat_map}
use Rattle.rbg_questions.specs.Chance.{counted_by}
use Rattle.rbg_questions.specs.Summary.{ended_line}
use Rattle.rbg_questions.proofs.summary_writer.put_endings.Given as goal

abbrev pub invariant-loop-tally : goal.invariant-loop-tally
invariant-loop-tally l = l.out.items ≡ l.fn.out.items ++ flat_map (λ one. ended_line one.scores one.matches) (map counted_by (take l.tally-index l.tallies))
