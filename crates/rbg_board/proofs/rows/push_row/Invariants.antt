-- The table has the cells so far.
use Rattle.std.proofs.Common.{◌≡◌, ◌++◌, flat_map}
use Rattle.rbg_board.specs.Sites.{ways_from, sites_along}
use Rattle.rbg_board.proofs.rows.push_row.Given as goal

-- the table has gained the rows of the cells so far
abbrev pub invariant-loop-cell : goal.invariant-loop-cell
invariant-loop-cell g l = l.table.items ≡ l.initial.table.items ++ flat_map (ways_from (g.S.Shape.leads l.shape) l.width) (sites_along l.row l.cell)
