-- What is written, and what a failure leaves in the log.
use Rattle.std.proofs.Common.{Err, ap, refl}
use Rattle.rbg_hall.specs.TableHearing.{input_of}
use Rattle.rbg_serving.specs.declared.keeping.WriteError.TheVariants.{Memory}
use Rattle.rbg_hall.specs.internal.LogParts.{LeavesIn}
use Rattle.rbg_hall.proofs.Failing.{begin_fails, hearing_fails, note_fails, passed_on, written_so}
use Rattle.rbg_hall.proofs.noting.hear_noted.Goals as goal

pub returns-in_err-note-clause-fails : goal.returns-in_err-note-clause-fails
returns-in_err-note-clause-fails g c =
    let event = input_of c.args.input in
    let error = c.in_err-note.field-0.0 in
    passed_on c.from_residual.result (LeavesIn g.W.Log.told c.args.log.now c.note.new.log c.args.table.now event) error c.from_residual.ensures.1
    (note_fails g.W.Log.told c.args.log.now c.note.new.log c.args.table.now event error c.in_err-note.ensures.part (λ is. c.in_err-note.ensures.kept (ap Err is)))

pub returns-in_err-hear-clause-fails : goal.returns-in_err-hear-clause-fails
returns-in_err-hear-clause-fails g c =
    let event = input_of c.args.input in
    passed_on c.from_residual-in_err-hear.result (LeavesIn g.W.Log.told c.args.log.now c.note.new.log c.args.table.now event) Memory c.from_residual-in_err-hear.ensures.1
    (hearing_fails g.W.Log.told c.args.log.now c.note.new.log c.args.table.now event Memory refl c.in_ok-note.ensures.ok)

pub returns-clause-fails : goal.returns-clause-fails
returns-clause-fails g c =
    begin_fails g.W.Log.told c.args.log.now c.note.new.log c.begin.new.log c.args.table.now c.hear.new.self (input_of c.args.input) c.is_waiting.result c.config.result c.moment_of.result c.begin.result
    c.is_waiting.ensures c.config.ensures c.moment_of.ensures c.in_ok-note.ensures.ok c.begin.ensures.part c.begin.ensures.kept

pub returns-clause-writes : goal.returns-clause-writes
returns-clause-writes g c =
    written_so g.W.Log.told c.args.log.now c.note.new.log c.begin.new.log c.args.table.now c.hear.new.self (input_of c.args.input) c.is_waiting.result c.config.result c.moment_of.result c.begin.result
    c.is_waiting.ensures c.config.ensures c.moment_of.ensures c.moment_of.type_inv c.in_ok-note.ensures.ok c.begin.ensures.ok
