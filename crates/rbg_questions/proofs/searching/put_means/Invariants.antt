-- The text so far is that of the players so far.
use Rattle.std.proofs.Common.{◌≡◌, ◌++◌, map}
use Rattle.rbg_questions.specs.Chance.{counted_by}
use Rattle.rbg_questions.specs.Searching.{means_text}
use Rattle.rbg_questions.proofs.searching.put_means.Given as goal

abbrev pub invariant-loop-index : goal.invariant-loop-index
invariant-loop-index l = l.out.items ≡ l.fn.out.items ++ means_text (map counted_by l.fn.tallies) l.index
