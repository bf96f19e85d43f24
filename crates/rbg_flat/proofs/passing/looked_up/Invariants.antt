-- The bits so far tell where the piece stands.
use Rattle.rbg_base.proofs.Common.{◌≡◌, ℕ, ◌+◌, ◌*◌, ◌<◌, ◌↔◌, slice_get, Some, bit_at}
use Rattle.rbg_flat.proofs.passing.looked_up.Given as goal

abbrev pub invariant-loop-bit : goal.invariant-loop-bit
invariant-loop-bit l = (b : ℕ) → (bit_at l.word b ≡ 1) ↔ ((b < l.bit) × (slice_get l.state.state.pieces (l.column * 64 + b) ≡ Some l.piece))
