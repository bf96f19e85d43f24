-- What the file has is answered.
use Rattle.std.proofs.Common.{subst}
use Rattle.std.proofs.lemmas.Result.{IfOk-weaker}
use Rattle.rbg_console.specs.Files.{IsFileReading}
use Rattle.rbg_console.specs.Inputs.{most_input}
use Rattle.rbg_hosting.specs.Runs.{IsScriptAnswer}
use Rattle.rbg_hosting.specs.Runs.IsFilesScript.{of_file, too_long}
use Rattle.rbg_referee.proofs.RunCallerLemmas.{both}
use Rattle.rbg_hosting.proofs.script.answer_file.Goals as goal

pub returns-in-Whole : goal.returns-in-Whole
returns-in-Whole g c =
    let reading = subst (IsFileReading most_input _) c.in-Whole.is c.in_ok-bytes.ensures.read in
    IfOk-weaker c.answer_record.result _ _ (λ answer is. of_file c.in-Whole.bytes.items reading.1 (subst (λ text. IsScriptAnswer text answer.text.items answer.status) c.as_slice.ensures.value is)) c.answer_record.ensures

pub returns-in-TooLong : goal.returns-in-TooLong
returns-in-TooLong g c =
    let reading = subst (IsFileReading most_input _) c.in-TooLong.is c.in_ok-bytes.ensures.read in
    both c.answer_form.result _ _ _
    (λ answer is was. too_long reading.0 reading.2 reading.1 is was) c.answer_form.ensures.text c.answer_form.ensures.status
