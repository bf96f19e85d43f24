-- The record that is written is that of the match, or there is no match.
use Rattle.std.proofs.lemmas.Result.{IfOk-weaker}
use Rattle.rbg_referee.specs.Faults.{AnswersFault}
use Rattle.rbg_operations.specs.internal.RecordParts.{RecordsMatch, WritesRecord}
use Rattle.rbg_operations.specs.internal.RecordParts.RecordsMatch.{unplayed}
use Rattle.rbg_operations.proofs.RecordRunLemmas.{record_written}
use Rattle.rbg_operations.proofs.record_run.filing.record_match.Goals as goal

pub returns-in-Ok : goal.returns-in-Ok
returns-in-Ok g c =
    let tells = g.F.Files.knows_new in
    let after = g.F.Files.told c.write_recorded.new.files c.args.target.now in
    let description = c.args.texts.description.now in
    let script = c.args.texts.script.now in
    let lines = c.in-Ok.recorded.lines.items in
    let told = c.in-Ok.recorded.told.items in
    IfOk-weaker c.write_recorded.result (λ answer. WritesRecord tells after lines told answer.text.items answer.status)
    (λ answer. RecordsMatch tells after description script answer.text.items answer.status)
    (λ answer is. record_written tells after description script lines told answer.text.items answer.status c.in-Ok.ensures.recorded is) c.write_recorded.ensures

pub returns-in-Err : goal.returns-in-Err
returns-in-Err g c =
    let tells = g.F.Files.knows_new in
    let description = c.args.texts.description.now in
    let script = c.args.texts.script.now in
    let error = c.in-Err.error in
    IfOk-weaker c.answer_fault.result (λ answer. AnswersFault error answer.text.items answer.status)
    (λ answer. RecordsMatch tells _ description script answer.text.items answer.status)
    (λ answer is. unplayed error c.in-Err.ensures.refused is) c.answer_fault.ensures
