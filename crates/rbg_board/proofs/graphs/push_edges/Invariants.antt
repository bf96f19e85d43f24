-- The row of the table has the edges so far.
use Rattle.std.proofs.Common.{◌≡◌, ℕ, ◌<◌, IsSome, length, get_or, nat_eq}
use Rattle.std.specs.HashMap as hash
use Rattle.rbg_board.proofs.Wirings.{FillsRow}
use Rattle.rbg_board.proofs.graphs.push_edges.Given as goal

-- the last row is filled with the edges so far, and their names are known
abbrev pub invariant-loop-edge : goal.invariant-loop-edge
invariant-loop-edge l = record {
  start : l.start ≡ length l.fn.table.items;
  fills : FillsRow (hash.get nat_eq l.index) l.width l.edges l.edge-index l.fn.table.items l.table.items;
  known : (k : ℕ) → k < l.edge-index → IsSome (hash.get nat_eq l.index (get_or l.edges k (0, 0)).1);
}
