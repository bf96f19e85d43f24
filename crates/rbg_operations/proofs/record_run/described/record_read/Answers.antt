-- Two texts that were read have a match, or none; without one of them there is none.
use Rattle.std.proofs.Common.{ℕ, List, subst}
use Rattle.std.proofs.lemmas.Result.{IfOk-weaker}
use Rattle.rbg_console.specs.Inputs.{most_input}
use Rattle.rbg_macro.specs.TextLimits.{longest_text}
use Rattle.rbg_operations.specs.Tasks.{IsReadOf}
use Rattle.rbg_operations.specs.Tasks.FileCommand.{Referee}
use Rattle.rbg_operations.specs.internal.Parts.{task_of}
use Rattle.rbg_operations.specs.internal.RecordParts.{RecordsTask, RecordsTexts}
use Rattle.rbg_operations.proofs.RecordRunLemmas.{read_texts}
use Rattle.rbg_operations.proofs.record_run.described.record_read.Goals as goal

pub returns-in-Some-told : goal.returns-in-Some-told
returns-in-Some-told g c =
    let tells = g.F.Files.knows_new in
    let known = g.F.Files.told c.args.files.now c.args.target.now in
    let after = g.F.Files.told c.record_texts.new.files c.args.target.now in
    let texts = c.args.texts.now in
    let description = c.in-Some.description in
    let script = c.in-Some-told.script in
    IfOk-weaker c.record_texts.result (λ answer. RecordsTexts tells known after c.as_slice.result.now c.as_slice-in-Some-told.result.now answer.text.items answer.status)
    (λ answer. (whole bytes : List ℕ) → IsReadOf longest_text texts.description whole → IsReadOf most_input texts.told bytes → RecordsTask tells known after (task_of Referee whole bytes) answer.text.items answer.status)
    (λ answer is. λ d t reads told. read_texts tells known after texts.description texts.told d t description script answer.text.items answer.status c.in-Some.is c.in-Some-told.is reads told
    (subst (λ bytes. RecordsTexts tells known after bytes script.items answer.text.items answer.status) c.as_slice.ensures.value
    (subst (λ bytes. RecordsTexts tells known after c.as_slice.result.now bytes answer.text.items answer.status) c.as_slice-in-Some-told.ensures.value is))) c.record_texts.ensures
