-- The text so far is that of the items so far.
use Rattle.std.proofs.Common.{◌≡◌, ◌++◌, take, flat_map}
use Rattle.rbg_operations.specs.Lines.{made_line}
use Rattle.rbg_operations.proofs.listing_lines.write_made.Given as goal

abbrev pub invariant-loop-made : goal.invariant-loop-made
invariant-loop-made l = l.out.items ≡ l.fn.out.items ++ flat_map made_line (take l.made-index l.moves)
