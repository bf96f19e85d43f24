-- The text so far is that of the players so far.
use Rattle.std.proofs.Common.{◌≡◌, ◌++◌, map}
use Rattle.rbg_questions.specs.Chance.{counted_by}
use Rattle.rbg_questions.specs.Summary.{mean_lines}
use Rattle.rbg_questions.proofs.summary_writer.put_means.Given as goal

abbrev pub invariant-loop-index : goal.invariant-loop-index
invariant-loop-index l = l.out.items ≡ l.fn.out.items ++ mean_lines l.fn.game.players (map counted_by l.fn.tallies) l.index
