-- The bytes so far are those of the items so far.
use Rattle.std.proofs.Common.{◌≡◌, ◌++◌, take}
use Rattle.std.specs.List.{flat_map}
use Rattle.rbg_questions.specs.Packing.{in_two}
use Rattle.rbg_questions.proofs.packing_writer.put_pieces.Given as goal

abbrev pub invariant-loop-piece : goal.invariant-loop-piece
invariant-loop-piece l = l.out.items ≡ l.fn.out.items ++ flat_map in_two (take l.piece-index l.pieces)
