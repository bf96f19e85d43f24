-- No file was known by the name under which one was created.
use Rattle.std.proofs.lemmas.Result.{IfOk-weaker}
use Rattle.rbg_operations.specs.internal.RecordParts.{RecordsMatch, RecordsTexts}
use Rattle.rbg_operations.specs.internal.RecordParts.RecordsTexts.{created}
use Rattle.rbg_operations.proofs.record_run.filing.record_texts.Goals as goal

pub returns-in-Ok : goal.returns-in-Ok
returns-in-Ok g c =
    let tells = g.F.Files.knows_new in
    let known = g.F.Files.told c.args.files.now c.args.target.now in
    let after = g.F.Files.told c.record_match.new.files c.args.target.now in
    let description = c.args.texts.description.now in
    let script = c.args.texts.script.now in
    IfOk-weaker c.record_match.result (λ answer. RecordsMatch tells after description script answer.text.items answer.status)
    (λ answer. RecordsTexts tells known after description script answer.text.items answer.status)
    (λ answer is. created c.in-Ok.ensures.absent is) c.record_match.ensures
