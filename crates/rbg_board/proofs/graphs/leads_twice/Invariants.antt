-- The edges so far have different directions.
use Rattle.std.proofs.Common.{◌≡◌, ℕ, ◌<◌, get_or, map}
use Rattle.rbg_board.proofs.graphs.leads_twice.Given as goal

-- the directions so far differ
abbrev pub invariant-loop-i : goal.invariant-loop-i
invariant-loop-i l = (j k : ℕ) → j < k → k < l.i → get_or (map (λ edge. edge.0) l.edges) j 0 ≡ get_or (map (λ edge. edge.0) l.edges) k 0 → ⊥
