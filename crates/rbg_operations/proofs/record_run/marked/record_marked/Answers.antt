-- The texts are those before and after the mark.
use Rattle.std.proofs.lemmas.Result.{IfOk-weaker}
use Rattle.rbg_operations.specs.internal.RecordParts.{RecordsInput, RecordsTexts}
use Rattle.rbg_operations.specs.internal.RecordParts.RecordsInput.{marked}
use Rattle.rbg_operations.proofs.record_run.marked.record_marked.Goals as goal

pub returns-in-Some : goal.returns-in-Some
returns-in-Some g c =
    let tells = g.F.Files.knows_new in
    let known = g.F.Files.told c.args.files.now c.args.target.now in
    let after = g.F.Files.told c.record_texts.new.files c.args.target.now in
    let texts = c.in-Some.texts in
    IfOk-weaker c.record_texts.result (λ answer. RecordsTexts tells known after texts.description.now texts.script.now answer.text.items answer.status)
    (λ answer. RecordsInput tells known after c.args.input.now answer.text.items answer.status)
    (λ answer is. marked texts.description.now texts.script.now c.in-Some.ensures.found is) c.record_texts.ensures
