use Rattle.std.proofs.Common.{map}
use Rattle.rbg_grammar.specs.Views.{name_of}
use Rattle.rbg_game.proofs.NumberingCommon.{Memory, IsNumberOf, HasLookUpFault, no_memory}
use Rattle.rbg_game.proofs.Lists.{AllZip-step, Contains-map_read}
use Rattle.rbg_game.proofs.LookUps.{look_up_one}
use Rattle.rbg_base.proofs.Errors.{passed_on}
use Rattle.rbg_game.proofs.name_table.NameTable.find_all.Goals as goal

pub returns-in_err-find-clause-fault : goal.returns-in_err-find-clause-fault
returns-in_err-find-clause-fault c =
    let names = c.args.names.now in
    let name = c.name-item.result in
    let error = c.in_err-find.field-0.0 in
    let stands = Contains-map_read name_of names c.loop-name.name-index name c.loop-name-test.true c.name-item.is in
    passed_on c.from_residual-in_err-find.result error (HasLookUpFault c.args.self.now (map name_of names)) c.from_residual-in_err-find.ensures.1
    (look_up_one c.args.self.now (name_of name) (map name_of names) error stands c.in_err-find.ensures.fault)

pub loop-name-preserved : goal.loop-name-preserved
loop-name-preserved c =
    rw c.in_ok-push.ensures.items
    (AllZip-step (IsNumberOf c.args.self.now) name_of c.args.names.now c.loop-name.numbers.items c.loop-name.name-index c.name-item.result c.in_ok-find.field-0 c.loop-name-test.true c.name-item.is c.loop-name.invariant c.in_ok-find.ensures.number)

pub returns-in_err-numbers-clause-fault : goal.returns-in_err-numbers-clause-fault
returns-in_err-numbers-clause-fault c = passed_on c.from_residual.result Memory (HasLookUpFault c.args.self.now (map name_of c.args.names.now)) c.from_residual.ensures.1 no_memory

pub returns-in_err-push-clause-fault : goal.returns-in_err-push-clause-fault
returns-in_err-push-clause-fault c = passed_on c.from_residual-in_err-push.result Memory (HasLookUpFault c.args.self.now (map name_of c.args.names.now)) c.from_residual-in_err-push.ensures.1 no_memory
