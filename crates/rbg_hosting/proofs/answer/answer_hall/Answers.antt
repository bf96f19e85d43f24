-- The answer is that of the hall, or of the fault.
use Rattle.std.proofs.lemmas.Result.{IfOk-weaker}
use Rattle.rbg_hosting.specs.Answers.{AnswersFault, IsHallAnswer}
use Rattle.rbg_hosting.specs.Answers.IsHallAnswer.{heard, unheard}
use Rattle.rbg_hosting.specs.Tables.{texts_of}
use Rattle.rbg_hosting.proofs.answer.answer_hall.Goals as goal

pub returns-in-Ok : goal.returns-in-Ok
returns-in-Ok c = heard c.in-Ok.lines.items c.in-Ok.ensures.heard

pub returns-in-Err : goal.returns-in-Err
returns-in-Err c =
    let texts = texts_of c.args.descriptions.now in
    let script = c.args.script.now in
    let error = c.in-Err.error in
    IfOk-weaker c.answer_hosting.result (λ answer. AnswersFault error answer.text.items answer.status) (λ answer. IsHallAnswer texts script answer.text.items answer.status)
    (λ answer says. unheard error answer.text.items answer.status c.in-Err.ensures.refused says) c.answer_hosting.ensures
