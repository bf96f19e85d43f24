-- The index has the names so far.
use Rattle.std.proofs.Common.{nat_eq}
use Rattle.std.specs.HashMap as hash
use Rattle.rbg_board.proofs.Common.{names_of, written_of}
use Rattle.rbg_board.proofs.Indexing.{IndexesBelow}
use Rattle.rbg_board.proofs.graphs.index_names.Given as goal

-- the index has the names so far, each at its place, and no other name
abbrev pub invariant-loop-vertex : goal.invariant-loop-vertex
invariant-loop-vertex l = IndexesBelow (names_of (written_of l.cells)) (hash.get nat_eq l.index) l.vertex
