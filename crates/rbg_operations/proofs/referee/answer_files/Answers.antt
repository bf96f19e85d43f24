-- What was read is answered.
use Rattle.std.proofs.lemmas.Result.{IfOk-weaker}
use Rattle.rbg_operations.specs.Tasks.{on_file}
use Rattle.rbg_operations.specs.Tasks.FileCommand.{Referee}
use Rattle.rbg_operations.specs.internal.Parts.{AnswersTexts, IsFilesAnswer}
use Rattle.rbg_operations.proofs.RunLemmas.{script_answer}
use Rattle.rbg_operations.proofs.referee.answer_files.Goals as goal

pub returns-in-Ok : goal.returns-in-Ok
returns-in-Ok g c =
    let known = g.F.Files.told c.args.files.now in
    let unread = g.R.Read.remaining c.args.input.now in
    let left = g.R.Read.remaining c.read_match.new.input in
    let file = c.args.file.now in
    let texts = c.in-Ok.texts in
    IfOk-weaker c.answer_texts.result (λ answer. AnswersTexts Referee texts.description texts.told answer.text.items answer.status)
    (λ answer. IsFilesAnswer known unread left (on_file Referee file) answer.text.items answer.status)
    (λ answer answers. script_answer known unread left file texts.description texts.told answer.text.items answer.status c.in-Ok.ensures.description c.in-Ok.ensures.told answers)
    c.answer_texts.ensures
