-- The answer is that of the match, or of the fault.
use Rattle.std.proofs.lemmas.Result.{IfOk-weaker}
use Rattle.rbg_referee.specs.Answers.{IsAnswer}
use Rattle.rbg_referee.specs.Answers.IsAnswer.{played}
use Rattle.rbg_referee.specs.Faults.{AnswersFault}
use Rattle.rbg_referee.proofs.AnswerLemmas.{fault_answer}
use Rattle.rbg_referee.proofs.answer.answer_input.Goals as goal

pub returns-in-Ok : goal.returns-in-Ok
returns-in-Ok c = played c.in-Ok.lines.items c.in-Ok.ensures.played

pub returns-in-Err : goal.returns-in-Err
returns-in-Err c =
    let input = c.args.input.now in
    let error = c.in-Err.error in
    IfOk-weaker c.answer_fault.result (λ answer. AnswersFault error answer.text.items answer.status) (λ answer. IsAnswer input answer.text.items answer.status)
    (λ answer says. fault_answer input error answer.text.items answer.status c.in-Err.ensures.refused says) c.answer_fault.ensures
