-- The table has the rows of the cells so far.
use Rattle.std.proofs.Common.{◌≡◌, ℕ, ◌<◌, All, Contains, get_or, take, nat_eq}
use Rattle.std.specs.HashMap as hash
use Rattle.rbg_board.proofs.Common.{Written, names_of, pieces_of, written_of}
use Rattle.rbg_board.proofs.Wirings.{FillsRows}
use Rattle.rbg_board.proofs.graphs.wire.Given as goal

-- the first pieces and the rows of the cells so far, whose edges all lead to vertices
abbrev pub invariant-loop-cell : goal.invariant-loop-cell
invariant-loop-cell l = record {
  first : l.first.items ≡ take l.cell-index (pieces_of (written_of l.cells));
  fills : FillsRows (hash.get nat_eq l.index) l.width (written_of l.cells) l.cell-index l.table.items;
  known : (k : ℕ) (d : Written) → k < l.cell-index → All (λ edge. Contains (names_of (written_of l.cells)) edge.1) (get_or (written_of l.cells) k d).edges;
}
