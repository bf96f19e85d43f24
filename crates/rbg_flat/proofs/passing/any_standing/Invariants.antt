-- One of the pieces so far stands there.
use Rattle.rbg_base.proofs.Common.{◌≡◌, ℕ, ◌+◌, ◌*◌, ◌<◌, take, ◌↔◌, bit_at}
use Rattle.rbg_flat.specs.internal.Passing.{IsOneOf}
use Rattle.rbg_flat.proofs.passing.any_standing.Given as goal

abbrev pub invariant-loop-piece : goal.invariant-loop-piece
invariant-loop-piece l = (b : ℕ) → b < 64 → (bit_at l.word b ≡ 1) ↔ IsOneOf (take l.piece-index l.pieces) l.state.state.pieces (l.column * 64 + b)
