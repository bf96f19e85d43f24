-- The text so far is that of the pieces so far.
use Rattle.std.proofs.Common.{◌≡◌, ◌++◌, take}
use Rattle.rbg_view.specs.Places.{pieces_text}
use Rattle.rbg_view.proofs.places.put_pieces.Given as goal

abbrev pub invariant-loop-piece : goal.invariant-loop-piece
invariant-loop-piece l = l.out.items ≡ l.fn.out.items ++ pieces_text (take l.piece-index l.pieces)
