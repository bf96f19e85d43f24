use Rattle.rbg_base.proofs.Common.{map, ap, arith, length-map, IfOk-weaker, IfErr-weaker}
use Rattle.rbg_board.proofs.Common.{rows_of, RectangleEdge, HasFirstCell, IsEven, RectangleRefusal, HexagonEdge, HasCells, GrowsThenShrinks, HexagonRefusal}
use Rattle.rbg_grammar.proofs.Common.{name_of, names_of, rectangle, hexagon}
use Rattle.rbg_game.proofs.Common.{HasBoardFault, no_rectangle, no_hexagon}
use Rattle.rbg_base.proofs.Errors.{passed_on}
use Rattle.rbg_game.proofs.NamedRows.{cells_fault, rows_made, rows_refused}
use Rattle.rbg_game.proofs.checking.boards.make_board.Goals as goal

pub returns-in_err-parts-in-Rectangle-clause-fault : goal.returns-in_err-parts-in-Rectangle-clause-fault
returns-in_err-parts-in-Rectangle-clause-fault c =
    let spelt = rectangle (map name_of c.in-Rectangle.directions.names) (map names_of c.deref.result.now) in
    let error = c.in_err-parts-in-Rectangle.field-0.0 in
    rw (c.in-Rectangle.is, ← c.deref.ensures.value) (passed_on c.from_residual.result error (HasBoardFault c.args.pieces.now spelt) c.from_residual.ensures.1 (cells_fault c.args.pieces.now spelt error c.in_err-parts-in-Rectangle.ensures.fault))

pub returns-in_ok-parts-in-Rectangle-clause-board : goal.returns-in_ok-parts-in-Rectangle-clause-board
returns-in_ok-parts-in-Rectangle-clause-board c =
    rw (c.in-Rectangle.is, ← c.deref.ensures.value) (IfOk-weaker c.named.result _ _ (rows_made c.args.pieces.now (map name_of c.in-Rectangle.directions.names) (map names_of c.deref.result.now) (rows_of c.in_ok-parts-in-Rectangle.parts.cells.items) c.number_parts.new.numbers c.in_ok-parts-in-Rectangle.parts.directions c.in_ok-parts-in-Rectangle.ensures.cells c.in_ok-parts-in-Rectangle.ensures.directions (rectangle (map name_of c.in-Rectangle.directions.names) (map names_of c.deref.result.now))
    HasFirstCell IsEven RectangleEdge 4 (λ board is. is) (omega (arith, length-map c.in-Rectangle.directions.names name_of)) (omega arith) (rows_of c.deref-in-Rectangle.result.now) (ap rows_of c.deref-in-Rectangle.ensures.value) c.rectangle.result c.rectangle.ensures.lawful c.rectangle.ensures.board c.rectangle.ensures.width) c.named.ensures.board)

pub returns-in_ok-parts-in-Rectangle-clause-fault : goal.returns-in_ok-parts-in-Rectangle-clause-fault
returns-in_ok-parts-in-Rectangle-clause-fault c =
    rw (c.in-Rectangle.is, ← c.deref.ensures.value) (IfErr-weaker c.named.result _ _ (rows_refused c.args.pieces.now (map name_of c.in-Rectangle.directions.names) (map names_of c.deref.result.now) (rows_of c.in_ok-parts-in-Rectangle.parts.cells.items) c.number_parts.new.numbers c.in_ok-parts-in-Rectangle.parts.directions c.in_ok-parts-in-Rectangle.ensures.cells c.in_ok-parts-in-Rectangle.ensures.directions (rectangle (map name_of c.in-Rectangle.directions.names) (map names_of c.deref.result.now))
    RectangleRefusal (λ cause. no_rectangle) (rows_of c.deref-in-Rectangle.result.now) (ap rows_of c.deref-in-Rectangle.ensures.value) c.rectangle.result c.rectangle.ensures.refusal) c.named.ensures.refusal)

pub returns-in_err-parts-in-Hexagon-clause-fault : goal.returns-in_err-parts-in-Hexagon-clause-fault
returns-in_err-parts-in-Hexagon-clause-fault c =
    let spelt = hexagon (map name_of c.in-Hexagon.directions.names) (map names_of c.deref-in-Hexagon.result.now) in
    let error = c.in_err-parts-in-Hexagon.field-0.0 in
    rw (c.in-Hexagon.is, ← c.deref-in-Hexagon.ensures.value) (passed_on c.from_residual-in_err-parts-in-Hexagon.result error (HasBoardFault c.args.pieces.now spelt) c.from_residual-in_err-parts-in-Hexagon.ensures.1 (cells_fault c.args.pieces.now spelt error c.in_err-parts-in-Hexagon.ensures.fault))

pub returns-in_ok-parts-in-Hexagon-clause-board : goal.returns-in_ok-parts-in-Hexagon-clause-board
returns-in_ok-parts-in-Hexagon-clause-board c =
    rw (c.in-Hexagon.is, ← c.deref-in-Hexagon.ensures.value) (IfOk-weaker c.named-in-Hexagon.result _ _ (rows_made c.args.pieces.now (map name_of c.in-Hexagon.directions.names) (map names_of c.deref-in-Hexagon.result.now) (rows_of c.in_ok-parts-in-Hexagon.parts.cells.items) c.number_parts-in-Hexagon.new.numbers c.in_ok-parts-in-Hexagon.parts.directions c.in_ok-parts-in-Hexagon.ensures.cells c.in_ok-parts-in-Hexagon.ensures.directions (hexagon (map name_of c.in-Hexagon.directions.names) (map names_of c.deref-in-Hexagon.result.now))
    HasCells GrowsThenShrinks HexagonEdge 6 (λ board is. is) (omega (arith, length-map c.in-Hexagon.directions.names name_of)) (omega arith) (rows_of c.deref-in-Hexagon-2.result.now) (ap rows_of c.deref-in-Hexagon-2.ensures.value) c.hexagon.result c.hexagon.ensures.lawful c.hexagon.ensures.board c.hexagon.ensures.width) c.named-in-Hexagon.ensures.board)

pub returns-in_ok-parts-in-Hexagon-clause-fault : goal.returns-in_ok-parts-in-Hexagon-clause-fault
returns-in_ok-parts-in-Hexagon-clause-fault c =
    rw (c.in-Hexagon.is, ← c.deref-in-Hexagon.ensures.value) (IfErr-weaker c.named-in-Hexagon.result _ _ (rows_refused c.args.pieces.now (map name_of c.in-Hexagon.directions.names) (map names_of c.deref-in-Hexagon.result.now) (rows_of c.in_ok-parts-in-Hexagon.parts.cells.items) c.number_parts-in-Hexagon.new.numbers c.in_ok-parts-in-Hexagon.parts.directions c.in_ok-parts-in-Hexagon.ensures.cells c.in_ok-parts-in-Hexagon.ensures.directions (hexagon (map name_of c.in-Hexagon.directions.names) (map names_of c.deref-in-Hexagon.result.now))
    HexagonRefusal (λ cause. no_hexagon) (rows_of c.deref-in-Hexagon-2.result.now) (ap rows_of c.deref-in-Hexagon-2.ensures.value) c.hexagon.result c.hexagon.ensures.refusal) c.named-in-Hexagon.ensures.refusal)
