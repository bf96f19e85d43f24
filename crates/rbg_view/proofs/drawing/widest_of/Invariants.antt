-- The greatest of the lengths so far.
use Rattle.std.proofs.Common.{◌≡◌, take}
use Rattle.rbg_view.specs.Boards.{widest}
use Rattle.rbg_view.proofs.drawing.widest_of.Given as goal

abbrev pub invariant-loop-length : goal.invariant-loop-length
invariant-loop-length l = l.most ≡ widest (take l.length-index l.lengths)
