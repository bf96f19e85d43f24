-- The cells so far have edges of different directions.
use Rattle.std.proofs.Common.{ℕ, ◌<◌, get_or}
use Rattle.rbg_board.proofs.Common.{AreDifferent, Written, directions_in, written_of}
use Rattle.rbg_board.proofs.graphs.some_leads_twice.Given as goal

-- the directions of each cell so far differ
abbrev pub invariant-loop-cell : goal.invariant-loop-cell
invariant-loop-cell l = (k : ℕ) (d : Written) → k < l.cell-index → AreDifferent (directions_in (get_or (written_of l.cells) k d).edges)
