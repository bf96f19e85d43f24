-- A call has fewer moves to count. The counts so far are those after the first moves so far.
use Rattle.std.proofs.Common.{◌+◌, ◌*◌, take}
use Rattle.rbg_questions.specs.Counting.{AreCountedAfter, Sums}
use Rattle.rbg_questions.proofs.counting.+counting.Given as goal

abbrev pub decreases-count_after : goal.decreases-count_after
decreases-count_after l = 2 * l.further.moves + 1

abbrev pub decreases-count_from : goal.decreases-count_from
decreases-count_from l = 2 * l.moves

abbrev pub invariant-count_after-loop-index : goal.invariant-count_after-loop-index
invariant-count_after-loop-index l =
    Sums (AreCountedAfter l.fn.game l.fn.further.moves l.fn.further.extent l.fn.place) (take l.index l.firsts) l.counts.sequences l.counts.ended
