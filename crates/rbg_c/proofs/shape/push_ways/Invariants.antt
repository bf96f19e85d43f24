-- The ways so far.
use Rattle.std.proofs.Common.{◌≡◌, ◌++◌}
use Rattle.rbg_c.specs.Shapes.{ways}
use Rattle.rbg_c.proofs.shape.push_ways.Given as goal

abbrev pub invariant-loop-index : goal.invariant-loop-index
invariant-loop-index l = l.edges.items ≡ l.fn.edges.items ++ ways l.game.board l.vertex l.index
