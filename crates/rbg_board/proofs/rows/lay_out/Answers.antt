-- The first pieces and the table grow by one row at a time.
use Rattle.rbg_base.proofs.Common.{◌≡◌, ◌+◌, [], ◌++◌, length, get_or, take, refl, sym, ap, ◌∙◌, subst, arith, add-one, flat_map, concat, take-length, length-map}
use Rattle.rbg_board.proofs.Common.{rows_of, cells_in, cells_above, site_at, IsRow, ways_from, sites_along, Site, most_vertices}
use Rattle.rbg_board.proofs.Numbering.{start_of, concat_more}
use Rattle.rbg_board.proofs.Vectors.{row_read, length_read}
use Rattle.rbg_board.proofs.Layouts.{table_more, is_row, IsRow-le, same_site, is_table, is_laid_out}
use Rattle.rbg_board.proofs.rows.lay_out.Goals as goal

pub push_row-requires-clause-row : goal.push_row-requires-clause-row
push_row-requires-clause-row g c =
    let rows = rows_of c.args.rows.now in
    let r = c.loop-r.r in
    let row = c.index-rows-r.result in
    let here : c.len-here.result ≡ cells_in rows r = c.len-here.ensures ∙ length_read c.args.rows.now r row c.loop-r-test.true c.index-rows-r.is in
    let start : c.len.result ≡ start_of rows r = omega (arith, c.len.ensures, c.loop-r.first.ok.0, ap length c.loop-r.invariant.first) in
    let site = same_site c.len.result c.loop-r.above c.len-here.result c.cells_in.result 0 (start_of rows r) (cells_above rows r) (cells_in rows r) (cells_in rows (r + 1)) 0 start c.loop-r.invariant.above here c.cells_in.ensures refl in
    subst (λ s. IsRow s most_vertices) (sym site) (IsRow-le (site_at rows r 0) (length (concat rows)) most_vertices (omega (arith, c.requires.fits, c.requires.vertices)) (is_row rows r 0))

pub loop-r-preserved : goal.loop-r-preserved
loop-r-preserved g c =
    let rows = rows_of c.args.rows.now in
    let r = c.loop-r.r in
    let row = c.index-rows-r.result in
    let this_row : get_or rows r [] ≡ row.items = row_read c.args.rows.now r row c.loop-r-test.true c.index-rows-r.is in
    let here : c.len-here.result ≡ cells_in rows r = c.len-here.ensures ∙ length_read c.args.rows.now r row c.loop-r-test.true c.index-rows-r.is in
    let start : c.len.result ≡ start_of rows r = omega (arith, c.len.ensures, c.loop-r.first.ok.0, ap length c.loop-r.invariant.first) in
    let site = same_site c.len.result c.loop-r.above c.len-here.result c.cells_in.result 0 (start_of rows r) (cells_above rows r) (cells_in rows r) (cells_in rows (r + 1)) 0 start c.loop-r.invariant.above here c.cells_in.ensures refl in
    let ways = ways_from (g.S.Shape.leads c.args.shape.now) c.args.width in
    let along : flat_map ways (sites_along (record { start = c.len.result; above = c.loop-r.above; here = c.len-here.result; below = c.cells_in.result; cell = 0 }) c.len-here.result) ≡ flat_map ways (sites_along (site_at rows r 0) (cells_in rows r)) =
    ap (λ (s : Site). flat_map ways (sites_along s c.len-here.result)) site ∙ ap (λ n. flat_map ways (sites_along (site_at rows r 0) n)) here in
    rw add-one (record {
      first = c.in_ok-extend_from_slice.ensures.items ∙ ap (λ xs. c.loop-r.first.items ++ xs) (c.deref.ensures.value ∙ sym this_row) ∙ ap (λ xs. xs ++ get_or rows r []) c.loop-r.invariant.first ∙ sym (concat_more rows r);
      table = c.in_ok-push_row.ensures ∙ ap (λ xs. c.loop-r.table.items ++ xs) along ∙ ap (λ xs. xs ++ flat_map ways (sites_along (site_at rows r 0) (cells_in rows r))) c.loop-r.invariant.table ∙ sym (table_more (g.S.Shape.leads c.args.shape.now) c.args.width rows r);
      above = here;
    })

pub new-requires : goal.new-requires
new-requires g c =
    let rows = rows_of c.args.rows.now in
    let end : c.loop-r.r ≡ length rows = omega (arith, length-map c.args.rows.now (λ v. v.items)) in
    let all : c.loop-r.first.items ≡ concat rows = c.loop-r.invariant.first ∙ ap (λ n. concat (take n rows)) end ∙ ap concat (take-length rows) in
    rw (all, c.loop-r.invariant.table, end) (is_table (g.S.Shape.leads c.args.shape.now) c.args.width rows (omega (arith, c.requires.some, c.requires.vertices)) (omega (arith, c.requires.fits, c.requires.vertices)) (g.met.S.Shape.leads_within c.args.shape.now))

pub returns-clause-board : goal.returns-clause-board
returns-clause-board g c =
    let rows = rows_of c.args.rows.now in
    let end : c.loop-r.r ≡ length rows = omega (arith, length-map c.args.rows.now (λ v. v.items)) in
    let all : c.loop-r.first.items ≡ concat rows = c.loop-r.invariant.first ∙ ap (λ n. concat (take n rows)) end ∙ ap concat (take-length rows) in
    rw (c.new.ensures.graph, all, c.loop-r.invariant.table, end) (is_laid_out (g.S.Shape.leads c.args.shape.now) c.args.width rows)
