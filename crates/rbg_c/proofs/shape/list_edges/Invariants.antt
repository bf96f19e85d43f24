-- The ways from the vertices so far.
use Rattle.std.proofs.Common.{◌≡◌, length}
use Rattle.rbg_c.specs.Shapes.{all_ways}
use Rattle.rbg_c.proofs.shape.list_edges.Given as goal

abbrev pub invariant-loop-index : goal.invariant-loop-index
invariant-loop-index l = l.edges.items ≡ all_ways l.game.board (length l.game.directions) l.index
