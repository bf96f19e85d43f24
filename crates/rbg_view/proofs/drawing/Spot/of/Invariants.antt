-- The vertex lies in the rows that are left as it does in all of them.
use Rattle.std.proofs.Common.{◌≡◌, drop}
use Rattle.rbg_view.specs.Boards.{spot_from}
use Rattle.rbg_view.proofs.drawing.Spot.of.Given as goal

abbrev pub invariant-loop-row : goal.invariant-loop-row
invariant-loop-row l = spot_from l.row (drop l.row l.lengths) l.column ≡ spot_from 0 l.lengths l.vertex
