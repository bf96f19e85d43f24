-- The lines of the match are the answer, or what keeps it from being refereed.
use Rattle.std.proofs.lemmas.Result.{IfOk-weaker}
use Rattle.rbg_operations.proofs.AnswerLemmas.{fault_answers, match_answers}
use Rattle.rbg_operations.proofs.referee.answer_match.Goals as goal

pub returns-in-Ok : goal.returns-in-Ok
returns-in-Ok c = match_answers c.args.description.now c.args.script.now c.in-Ok.lines.items c.in-Ok.ensures.played

pub returns-in-Err : goal.returns-in-Err
returns-in-Err c =
    IfOk-weaker c.answer_fault.result _ _
    (λ answer says. fault_answers c.args.description.now c.args.script.now c.in-Err.error answer.text.items answer.status c.in-Err.ensures.refused says) c.answer_fault.ensures
