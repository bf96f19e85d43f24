-- The directions so far lead to the same vertices.
use Rattle.std.proofs.Common.{◌≡◌, ℕ, ◌<◌}
use Rattle.rbg_board.specs.Graph.{next}
use Rattle.rbg_position.proofs.same_board.leads_alike_from.Given as goal

abbrev pub invariant-loop-index : goal.invariant-loop-index
invariant-loop-index l = (d : ℕ) → d < l.index → next l.new l.vertex d ≡ next l.old l.vertex d
