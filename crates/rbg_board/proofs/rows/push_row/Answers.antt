-- The table grows by one cell at a time.
use Rattle.rbg_base.proofs.Common.{ℕ, arith, flat_map_more}
use Rattle.std.proofs.lemmas.List.FromFn.{map-range_with_len_more}
use Rattle.rbg_board.proofs.Common.{ways_from, sites_along, Site}
use Rattle.rbg_board.proofs.rows.push_row.Goals as goal

pub loop-cell-preserved : goal.loop-cell-preserved
loop-cell-preserved g c =
    let site : ℕ → Site = λ k. record c.args.row { cell = k } in
    let cell = c.loop-cell.cell in
    let one_more = map-range_with_len_more site 0 cell cell (omega arith) in
    let more = flat_map_more (ways_from (g.S.Shape.leads c.args.shape.now) c.args.width) c.args.table.now.items (sites_along c.args.row cell) (site cell) in
    let pushed = c.in_ok-push_ways.ensures in
    cc
