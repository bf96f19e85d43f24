-- What was read is answered.
use Rattle.std.proofs.Common.{[]}
use Rattle.std.proofs.lemmas.Result.{IfOk-weaker}
use Rattle.rbg_operations.specs.Tasks.FileCommand.{Check}
use Rattle.rbg_operations.specs.internal.Parts.{AnswersWhole}
use Rattle.rbg_operations.proofs.RunLemmas.{check_answer}
use Rattle.rbg_operations.proofs.check.answer_file.Goals as goal

pub returns-in-Ok : goal.returns-in-Ok
returns-in-Ok g c =
    let description = c.in-Ok.description in
    IfOk-weaker c.answer_read.result (λ answer. AnswersWhole Check description [] answer.text.items answer.status) _
    (λ answer answers. check_answer (g.F.Files.told c.args.files.now) c.args.file.now description answer.text.items answer.status c.in-Ok.ensures.read answers)
    c.answer_read.ensures
