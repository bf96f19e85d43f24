-- The vertices so far have pieces of the game.
use Rattle.std.proofs.Common.{ℕ, ◌<◌, length, slice_index}
use Rattle.rbg_state.proofs.fitting.are_pieces_of.Given as goal

abbrev pub invariant-loop-vertex : goal.invariant-loop-vertex
invariant-loop-vertex l = (v : ℕ) → v < l.vertex → slice_index l.pieces v < length l.game.pieces
