-- From the vertices so far all directions lead to the same ones.
use Rattle.std.proofs.Common.{◌≡◌, ℕ, ◌<◌}
use Rattle.rbg_board.specs.Graph.{next}
use Rattle.rbg_position.proofs.same_board.leads_alike.Given as goal

abbrev pub invariant-loop-vertex : goal.invariant-loop-vertex
invariant-loop-vertex l = (v d : ℕ) → v < l.vertex → d < l.width → next l.new v d ≡ next l.old v d
