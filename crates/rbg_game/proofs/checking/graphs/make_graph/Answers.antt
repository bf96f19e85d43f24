use Rattle.rbg_base.proofs.Common.{◌≡◌, ℕ, List, Result, length, map, ap, ◌∙◌, subst, sym, arith, AllZip, OnOk, length-map, IfOk-weaker, IfErr-weaker}
use Rattle.std.proofs.lemmas.Slice.Zip.{AllZip-long}
use Rattle.rbg_board.proofs.Common.{width_of, Graph, HasWidth, written_of, Written, directions_of, IsWritten, MakesGraph, GraphRefusal}
use Rattle.rbg_board.specs.declared.error.BoardError.{BoardError}
use Rattle.rbg_board.specs.declared.graphs.Cell.{Cell}
use Rattle.rbg_grammar.proofs.Common.{SpeltVertex, graph, vertex_of}
use Rattle.rbg_rules.specs.Meaning.{AreDifferentNames}
use Rattle.rbg_game.proofs.Common.{GameError, TooMany, Directions, MakesBoard, vertex_names, board_pieces, HasBoardFault, many_directions, no_graph, many_vertices, board_memory, IsCell}
use Rattle.rbg_game.specs.declared.checking.boards.NamedBoard.{NamedBoard}
use Rattle.rbg_game.specs.NameNumbers.{IsNumberOf}
use Rattle.rbg_base.proofs.Errors.{passed_on}
use Rattle.rbg_game.proofs.NamedRows.{of_ok, of_err, cells_fault, by_refusal}
use Rattle.rbg_game.proofs.NamedGraphs.{graph_made, graph_fault}
use Rattle.rbg_game.proofs.checking.graphs.make_graph.Goals as goal

pub returns-in_err-first-clause-fault : goal.returns-in_err-first-clause-fault
returns-in_err-first-clause-fault c =
    let P : GameError → Type 0 = λ e. HasBoardFault c.args.pieces.now (graph (map vertex_of c.args.vertices.now)) e in
    passed_on c.from_residual.result c.in_err-first.field-0.0 P c.from_residual.ensures.1 (cells_fault c.args.pieces.now (graph (map vertex_of c.args.vertices.now)) c.in_err-first.field-0.0 c.in_err-first.ensures.fault)

pub returns-in_err-directions-clause-fault : goal.returns-in_err-directions-clause-fault
returns-in_err-directions-clause-fault c =
    let P : GameError → Type 0 = λ e. HasBoardFault c.args.pieces.now (graph (map vertex_of c.args.vertices.now)) e in
    passed_on c.from_residual-in_err-directions.result c.in_err-directions.field-0.0 P c.from_residual-in_err-directions.ensures.1 (subst (λ e. P e) (sym c.in_err-directions.ensures.memory) board_memory)

pub returns-in_err-refuse_many-clause-fault : goal.returns-in_err-refuse_many-clause-fault
returns-in_err-refuse_many-clause-fault c =
    let P : GameError → Type 0 = λ e. HasBoardFault c.args.pieces.now (graph (map vertex_of c.args.vertices.now)) e in
    let fault : P (TooMany Directions) = many_directions c.in_ok-directions.ensures.order (omega (arith, c.in_err-refuse_many.ensures.many, c.len.ensures.count)) in
    passed_on c.from_residual-in_err-refuse_many.result _ P c.from_residual-in_err-refuse_many.ensures.1 (subst P (sym c.in_err-refuse_many.ensures.error) fault)

pub returns-then-vertices-gt-MAX_VERTICES-clause-fault : goal.returns-then-vertices-gt-MAX_VERTICES-clause-fault
returns-then-vertices-gt-MAX_VERTICES-clause-fault c = no_graph (many_vertices (omega (arith, c.if-vertices-gt-MAX_VERTICES.true, length-map c.args.vertices.now vertex_of)))

pub number_cells-requires-clause-pieces : goal.number_cells-requires-clause-pieces
number_cells-requires-clause-pieces c =
    let vertices = c.args.vertices.now in
    ap length c.deref.ensures.value
    ∙ AllZip-long (IsNumberOf c.args.pieces.now) (board_pieces (graph (map vertex_of vertices))) c.in_ok-first.first.items c.in_ok-first.ensures.numbers
    ∙ length-map (map vertex_of vertices) (λ (v : SpeltVertex). v.piece)
    ∙ length-map vertices vertex_of

pub returns-in_err-cells-clause-fault : goal.returns-in_err-cells-clause-fault
returns-in_err-cells-clause-fault c =
    let P : GameError → Type 0 = λ e. HasBoardFault c.args.pieces.now (graph (map vertex_of c.args.vertices.now)) e in
    passed_on c.from_residual-in_err-cells.result c.in_err-cells.field-0.0 P c.from_residual-in_err-cells.ensures.1 (subst (λ e. P e) (sym c.in_err-cells.ensures.memory) board_memory)

-- the vertices have different names, and the cells are numbered by these
cells_numbered : (pieces directions names : List (List ℕ)) (vertices : List SpeltVertex) (written : List Written) (first given : List ℕ) → AreDifferentNames names → names ≡ vertex_names vertices → given ≡ first
    → AllZip (IsNumberOf pieces) (board_pieces (graph vertices)) first → ((table : List (List ℕ)) → AllZip (IsNumberOf table) (board_pieces (graph vertices)) given → AllZip (IsCell table directions names) vertices written)
    → AreDifferentNames (vertex_names vertices) × AllZip (IsCell pieces directions (vertex_names vertices)) vertices written
cells_numbered pieces directions names vertices written first given differ are same named all = (
  subst AreDifferentNames are differ,
  subst (λ ns. AllZip (IsCell pieces directions ns) vertices written) are (all pieces (subst (AllZip (IsNumberOf pieces) (board_pieces (graph vertices))) (sym same) named)),
)

pub returns-clause-board : goal.returns-clause-board
returns-clause-board c =
    let vertices = map vertex_of c.args.vertices.now in
    let (differ, cells) =
    cells_numbered c.args.pieces.now c.in_ok-directions.directions c.in_ok-names.names vertices (written_of c.in_ok-cells.cells.items) c.in_ok-first.first.items c.deref.result.now c.in_ok-names.ensures.differ c.in_ok-names.ensures.names c.deref.ensures.value c.in_ok-first.ensures.numbers c.in_ok-cells.ensures.cells in
    IfOk-weaker c.named.result _ (λ (b : NamedBoard). MakesBoard c.args.pieces.now (graph vertices) b.directions b.board)
    (λ b it.
    let lawful = subst (λ (r : Result Graph BoardError). OnOk r (MakesGraph (written_of c.deref-2.result.now))) it.is c.graph.ensures.lawful in
    let makes = subst (λ (cs : List Cell). MakesGraph (written_of cs)) c.deref-2.ensures.value lawful in
    let is = subst (λ (cs : List Cell). IsWritten (written_of cs) b.board) c.deref-2.ensures.value (of_ok (IsWritten (written_of c.deref-2.result.now)) it.is c.graph.ensures.board) in
    let wide = subst (λ (cs : List Cell). HasWidth (width_of (directions_of (written_of cs))) b.board) c.deref-2.ensures.value (of_ok (HasWidth (width_of (directions_of (written_of c.deref-2.result.now)))) it.is c.graph.ensures.width) in
    rw it.directions
    (graph_made c.args.pieces.now c.in_ok-directions.directions vertices (written_of c.in_ok-cells.cells.items) differ cells b.board c.in_ok-directions.ensures.order it.names (omega (arith, c.in_ok-refuse_many.ensures.few, c.len.ensures.count)) it.vertices makes is wide))
    c.named.ensures.board

pub returns-clause-fault : goal.returns-clause-fault
returns-clause-fault c =
    let vertices = map vertex_of c.args.vertices.now in
    let (differ, cells) =
    cells_numbered c.args.pieces.now c.in_ok-directions.directions c.in_ok-names.names vertices (written_of c.in_ok-cells.cells.items) c.in_ok-first.first.items c.deref.result.now c.in_ok-names.ensures.differ c.in_ok-names.ensures.names c.deref.ensures.value c.in_ok-first.ensures.numbers c.in_ok-cells.ensures.cells in
    IfErr-weaker c.named.result _ (HasBoardFault c.args.pieces.now (graph vertices))
    (λ e it.
    let refused = subst (λ (cs : List Cell). GraphRefusal (written_of cs) it.cause) c.deref-2.ensures.value (of_err (GraphRefusal (written_of c.deref-2.result.now)) it.is c.graph.ensures.refusal) in
    rw it.refusal (by_refusal c.args.pieces.now (graph vertices) it.cause (λ is_fault. no_graph (graph_fault c.args.pieces.now c.in_ok-directions.directions vertices (written_of c.in_ok-cells.cells.items) differ cells it.cause refused is_fault))))
    c.named.ensures.refusal
