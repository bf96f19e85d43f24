-- The line that is named is the first one that isn't of the form.
use Rattle.std.proofs.Common.{◌≡◌, rules}
use Rattle.rbg_operations.specs.Answers.{form_line}
use Rattle.rbg_console.specs.declared.status.Status.TheVariants.{BadInput}
use Rattle.rbg_hosting.specs.Runs.{IsScriptAnswer}
use Rattle.rbg_hosting.specs.Runs.IsScriptAnswer.{not_of_form}
use Rattle.rbg_referee.proofs.RunCallerLemmas.{both}
use Rattle.rbg_hosting.proofs.script.answer_record.Goals as goal

pub returns-in-Err-Form : goal.returns-in-Err-Form
returns-in-Err-Form c =
    let bytes = c.args.bytes.now in
    let line = c.in-Err-Form.line in
    both c.answer_form.result (λ answer. answer.text.items ≡ form_line line) (λ answer. answer.status ≡ BadInput)
    (λ answer. IsScriptAnswer bytes answer.text.items answer.status)
    (λ answer is was. not_of_form line (c.in-Err-Form.ensures.form line (search rules)) is was)
    c.answer_form.ensures.text c.answer_form.ensures.status
