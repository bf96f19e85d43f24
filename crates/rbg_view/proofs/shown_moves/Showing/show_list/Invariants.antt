-- The lines before the rest are followed.
use Rattle.std.proofs.Common.{length}
use Rattle.rbg_view.specs.internal.Standing.{IsFollowedSoFar, standing_of}
use Rattle.rbg_view.proofs.shown_moves.Showing.show_list.Given as goal

abbrev pub invariant-loop-line : goal.invariant-loop-line
invariant-loop-line l = IsFollowedSoFar (standing_of l.fn.self) l.moves l.rest l.number (standing_of l.self)

abbrev pub decreases-loop-line : goal.decreases-loop-line
decreases-loop-line l = length l.rest
