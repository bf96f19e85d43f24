use Rattle.std.proofs.lemmas.Result.{err_from_is_err_and}
use Rattle.rbg_grammar.specs.Views.{name_of}
use Rattle.rbg_game.proofs.Joining.{joins_known, joins_new, new_name_fault}
use Rattle.rbg_game.proofs.checking.directions.join.Goals as goal

pub returns-in_err-insert-in-None-clause-memory : goal.returns-in_err-insert-in-None-clause-memory
returns-in_err-insert-in-None-clause-memory c =
    let p = err_from_is_err_and c.from_residual.result c.from_residual.ensures.1 in
    rw (p.1, p.2) (new_name_fault c.args.table.now (name_of c.args.name.now) c.in_err-insert-in-None.field-0.0 c.in-None.ensures c.in_err-insert-in-None.ensures.fault)

pub returns-in-Some-clause-number : goal.returns-in-Some-clause-number
returns-in-Some-clause-number c = joins_known c.args.table.now c.args.name.now.text.now c.in-Some.number c.in-Some.ensures

pub returns-in_ok-insert-in-None-clause-number : goal.returns-in_ok-insert-in-None-clause-number
returns-in_ok-insert-in-None-clause-number c =
    rw (c.in_ok-insert-in-None.ensures.ok, c.len-number.ensures.count) (joins_new c.args.table.now c.args.name.now.text.now c.in-None.ensures)
