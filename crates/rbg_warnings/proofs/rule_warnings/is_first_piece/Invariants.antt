-- The piece is on no vertex before this one.
use Rattle.std.proofs.Common.{◌≡◌, ℕ, ◌<◌, get_or}
use Rattle.rbg_warnings.proofs.rule_warnings.is_first_piece.Given as goal

abbrev pub invariant-loop-vertex : goal.invariant-loop-vertex
invariant-loop-vertex l = (k : ℕ) → k < l.vertex → get_or l.board.first k 0 ≡ l.piece → ⊥
