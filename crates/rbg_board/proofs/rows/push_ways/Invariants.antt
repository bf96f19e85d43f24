-- The table has the directions so far.
use Rattle.std.proofs.Common.{◌≡◌, ◌++◌}
use Rattle.rbg_board.specs.Sites.{ways_from}
use Rattle.rbg_board.proofs.rows.push_ways.Given as goal

-- the table has gained the entries of the directions so far
abbrev pub invariant-loop-direction : goal.invariant-loop-direction
invariant-loop-direction g l = l.table.items ≡ l.initial.table.items ++ ways_from (g.S.Shape.leads l.shape) l.direction l.site
