-- The table gains the row of one cell at a time, and leads as the written edges do.
use Rattle.rbg_base.proofs.Common.{◌≡◌, ℕ, ◌<◌, List, All, IsSome, length, get_or, map, take, nat_eq, sym, ap, ◌∙◌, subst, inl, inr, arith, take-length, cases_lt, take_more, length-map, err_from_is_err_and}
use Rattle.std.specs.HashMap as hash
use Rattle.rbg_board.proofs.Common.{AreDifferent, graph_of_table, IsTable, IsGraphOf, EdgesRefusal, Written, names_of, pieces_of, WrittenEdge, written, written_of}
use Rattle.rbg_board.proofs.CellReads.{cell_read, piece_read, edges_read, length-written}
use Rattle.rbg_board.proofs.Wirings.{FillsRows, rows_more}
use Rattle.rbg_board.proofs.GraphEdges.{written_board, is_wired_table, contains_of_known, refusal_of_edges}
use Rattle.rbg_board.proofs.graphs.wire.Goals as goal

pub push_edges-requires-clause-covers : goal.push_edges-requires-clause-covers
push_edges-requires-clause-covers c =
    let is = edges_read c.args.cells.now c.loop-cell.cell-index c.cell-item.result c.loop-cell-test.true c.cell-item.is c.deref.result.now (written c.cell-item.result) c.deref.ensures.value in
    subst (λ (edges : List (ℕ × ℕ)). All (λ edge. edge.0 < c.cells_width-width.result) edges) is (c.cells_width-width.ensures.covers c.loop-cell.cell-index (written c.cell-item.result) (omega (arith, length-written c.args.cells.now)))

pub push_edges-requires-clause-different : goal.push_edges-requires-clause-different
push_edges-requires-clause-different c =
    let is = edges_read c.args.cells.now c.loop-cell.cell-index c.cell-item.result c.loop-cell-test.true c.cell-item.is c.deref.result.now (written c.cell-item.result) c.deref.ensures.value in
    subst (λ (edges : List (ℕ × ℕ)). AreDifferent (map (λ edge. edge.0) edges)) is (c.requires.differ c.loop-cell.cell-index (written c.cell-item.result) (omega (arith, length-written c.args.cells.now)))

pub returns-in_err-push_edges-clause-refusal : goal.returns-in_err-push_edges-clause-refusal
returns-in_err-push_edges-clause-refusal c =
    let cells = c.args.cells.now in
    let i = c.loop-cell.cell-index in
    let cell = c.cell-item.result in
    let index = hash.get nat_eq c.args.index.now in
    let error = c.in_err-push_edges.field-0.0 in
    let refused = subst (λ (edges : List (ℕ × ℕ)). EdgesRefusal index edges error) c.deref.ensures.value c.in_err-push_edges.ensures.refusal in
    let there = cell_read cells i cell c.loop-cell-test.true c.cell-item.is (written cell) in
    let p = err_from_is_err_and c.from_residual-in_err-push_edges.result c.from_residual-in_err-push_edges.ensures.1 in
    rw (p.1, p.2) (refusal_of_edges (written_of cells) index i (written cell) error c.requires.index (omega (arith, length-written cells)) there refused)

pub loop-cell-preserved : goal.loop-cell-preserved
loop-cell-preserved c =
    let cells = c.args.cells.now in
    let vertices = written_of cells in
    let names = names_of vertices in
    let i = c.loop-cell.cell-index in
    let cell = c.cell-item.result in
    let index = hash.get nat_eq c.args.index.now in
    let edges = c.deref.result.now in
    let edges_are = λ (w : Written). edges_read cells i cell c.loop-cell-test.true c.cell-item.is edges w c.deref.ensures.value in
    let piece = piece_read cells i cell c.loop-cell-test.true c.cell-item.is in
    let one_more = take_more (pieces_of vertices) i 0 (omega (arith, length-written cells, length-map vertices (λ w. w.piece))) in
    record {
      first = let pushed = c.in_ok-push.ensures.items in let so_far = c.loop-cell.invariant.first in cc;
      fills = rows_more index c.cells_width-width.result vertices i edges c.loop-cell.table.items c.push_edges.new.table.items c.loop-cell.invariant.fills edges_are c.in_ok-push_edges.ensures.row;
      known = λ k d within. elim (cases_lt k i) [
        | inl earlier ↦ c.loop-cell.invariant.known k d earlier
        | inr last ↦
            let place : i ≡ k = omega arith in
            let known : All (λ edge. IsSome (index edge.1)) (get_or vertices k d).edges =
            subst (λ (es : List (ℕ × ℕ)). All (λ edge. IsSome (index edge.1)) es) (sym (edges_are d) ∙ ap (λ m. (get_or vertices m d).edges) place) c.in_ok-push_edges.ensures.known in
            λ j e inside. contains_of_known names index c.requires.index (get_or (get_or vertices k d).edges j e).1 (known j e inside)
      ];
    }

pub new-requires : goal.new-requires
new-requires c =
    let cells = c.args.cells.now in
    let vertices = written_of cells in
    let index = hash.get nat_eq c.args.index.now in
    let width = c.cells_width-width.result in
    let all : c.loop-cell.cell-index ≡ length vertices = omega (arith, length-written cells) in
    let fills : FillsRows index width vertices (length vertices) c.loop-cell.table.items = subst (λ n. FillsRows index width vertices n c.loop-cell.table.items) all c.loop-cell.invariant.fills in
    let pieces : c.loop-cell.cell-index ≡ length (pieces_of vertices) = omega (arith, length-map vertices (λ w. w.piece)) in
    let first : c.loop-cell.first.items ≡ pieces_of vertices = c.loop-cell.invariant.first ∙ ap (λ n. take n (pieces_of vertices)) pieces ∙ take-length (pieces_of vertices) in
    let size : length vertices ≡ length c.loop-cell.first.items = omega (arith, ap length first) in
    subst (λ n. IsTable n width c.loop-cell.table.items) size (is_wired_table vertices index width c.loop-cell.table.items c.requires.index fills c.requires.count)

pub returns-clause-known : goal.returns-clause-known
returns-clause-known c = λ k d within. c.loop-cell.invariant.known k d (omega (arith, length-written c.args.cells.now))

pub returns-clause-board : goal.returns-clause-board
returns-clause-board c =
    let cells = c.args.cells.now in
    let vertices = written_of cells in
    let index = hash.get nat_eq c.args.index.now in
    let width = c.cells_width-width.result in
    let table = c.loop-cell.table.items in
    let all : c.loop-cell.cell-index ≡ length vertices = omega (arith, length-written cells) in
    let fills : FillsRows index width vertices (length vertices) table = subst (λ n. FillsRows index width vertices n table) all c.loop-cell.invariant.fills in
    let pieces : c.loop-cell.cell-index ≡ length (pieces_of vertices) = omega (arith, length-map vertices (λ w. w.piece)) in
    let first : c.loop-cell.first.items ≡ pieces_of vertices = c.loop-cell.invariant.first ∙ ap (λ n. take n (pieces_of vertices)) pieces ∙ take-length (pieces_of vertices) in
    let board = c.new.ensures.graph ∙ ap (λ xs. graph_of_table xs width table) first in
    subst (λ g. IsGraphOf g (pieces_of vertices) (WrittenEdge vertices)) (sym board) (written_board vertices index width table c.requires.index fills)
