use Rattle.rbg_base.proofs.Common.{◌≡◌, ◌++◌, List, map, take, ap, sym, ◌∙◌, take-map}
use Rattle.rbg_grammar.proofs.Common.{name_of, SpeltName}
use Rattle.rbg_game.proofs.NumberingCommon.{texts_of, HasNameFault}
use Rattle.rbg_game.proofs.Lists.{slice_get-map_read}
use Rattle.rbg_game.proofs.LookUps.{name_fault_at}
use Rattle.rbg_base.proofs.Errors.{passed_on}
use Rattle.rbg_game.proofs.checking.names.add_names.Goals as goal

pub returns-in_err-insert-clause-fault : goal.returns-in_err-insert-clause-fault
returns-in_err-insert-clause-fault c =
    let names = c.args.names.now in
    let i = c.loop-name.name-index in
    let before : c.loop-name.table ≡ c.args.table.now ++ texts_of (take i (map name_of names)) =
    c.loop-name.invariant ∙ ap (λ (l : List SpeltName). c.args.table.now ++ texts_of l) (sym (take-map name_of i names)) in
    passed_on c.from_residual.result c.in_err-insert.field-0.0 (HasNameFault c.args.table.now (map name_of names)) c.from_residual.ensures.1
    (name_fault_at c.args.table.now c.loop-name.table (map name_of names) i (name_of c.name-item.result) c.in_err-insert.field-0.0
    (slice_get-map_read name_of names i c.name-item.result c.loop-name-test.true c.name-item.is) before c.in_err-insert.ensures.fault)
