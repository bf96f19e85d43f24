use Rattle.rbg_base.proofs.Common.{List, flat_map, map, subst, AllZip, map-append}
use Rattle.rbg_board.specs.Cells.{rows_of}
use Rattle.rbg_grammar.proofs.Common.{SpeltName, name_of, names_of}
use Rattle.rbg_game.specs.declared.game_error.GameError.TheVariants.{Memory}
use Rattle.rbg_game.proofs.NumberingCommon.{IsNumberOf, HasLookUpFault, no_memory}
use Rattle.rbg_game.proofs.Lists.{AllZip-step, Contains-flat_map, Contains-map_read}
use Rattle.rbg_game.proofs.LookUps.{look_up_within}
use Rattle.rbg_base.proofs.Errors.{passed_on}
use Rattle.rbg_game.proofs.checking.boards.number_rows.Goals as goal

pub returns-in_err-find_all-clause-fault : goal.returns-in_err-find_all-clause-fault
returns-in_err-find_all-clause-fault c =
    let pieces = c.args.pieces.now in
    let rows = c.args.rows.now in
    let row = c.row-item.result in
    let error = c.in_err-find_all.field-0.0 in
    let whole : List SpeltName = flat_map (λ row. row) (map names_of rows) in
    let stands = Contains-map_read names_of rows c.loop-row.row-index row c.loop-row-test.true c.row-item.is in
    let fault : HasLookUpFault pieces (names_of row) error = subst (λ cells. HasLookUpFault pieces (map name_of cells) error) c.deref.ensures.value c.in_err-find_all.ensures.fault in
    passed_on c.from_residual-in_err-find_all.result error (HasLookUpFault pieces whole) c.from_residual-in_err-find_all.ensures.1
    (look_up_within pieces (names_of row) whole error (λ name. Contains-flat_map (λ (r : List SpeltName). r) (map names_of rows) (names_of row) name stands) fault)

pub loop-row-preserved : goal.loop-row-preserved
loop-row-preserved c =
    let pieces = c.args.pieces.now in
    let row = c.row-item.result in
    let numbers = c.in_ok-find_all.field-0 in
    let here : AllZip (IsNumberOf pieces) (names_of row) numbers.items = subst (λ cells. AllZip (IsNumberOf pieces) (map name_of cells) numbers.items) c.deref.ensures.value c.in_ok-find_all.ensures.numbers in
    let all = AllZip-step (AllZip (IsNumberOf pieces)) names_of c.args.rows.now (rows_of c.loop-row.numbers.items) c.loop-row.row-index row numbers.items c.loop-row-test.true c.row-item.is c.loop-row.invariant here in
    rw (c.in_ok-push.ensures.items, map-append) all

pub returns-in_err-numbers-clause-fault : goal.returns-in_err-numbers-clause-fault
returns-in_err-numbers-clause-fault c =
    passed_on c.from_residual.result Memory (HasLookUpFault c.args.pieces.now (flat_map (λ (row : List SpeltName). row) (map names_of c.args.rows.now))) c.from_residual.ensures.1 no_memory

pub returns-in_err-push-clause-fault : goal.returns-in_err-push-clause-fault
returns-in_err-push-clause-fault c =
    passed_on c.from_residual-in_err-push.result Memory (HasLookUpFault c.args.pieces.now (flat_map (λ (row : List SpeltName). row) (map names_of c.args.rows.now))) c.from_residual-in_err-push.ensures.1 no_memory
