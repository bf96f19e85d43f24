-- The text so far is that of the items so far.
use Rattle.std.proofs.Common.{◌≡◌, ◌++◌, take, flat_map}
use Rattle.rbg_operations.specs.Lines.{move_line}
use Rattle.rbg_operations.proofs.listing_lines.write_moves.Given as goal

abbrev pub invariant-loop-pairs : goal.invariant-loop-pairs
invariant-loop-pairs l = l.out.items ≡ l.fn.out.items ++ flat_map (move_line l.player) (take l.pairs-index l.moves)
