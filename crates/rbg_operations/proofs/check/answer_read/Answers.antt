-- The counts are the answer, or the refusal.
use Rattle.std.proofs.Common.{[]}
use Rattle.std.proofs.lemmas.Result.{IfOk-weaker}
use Rattle.rbg_operations.specs.Tasks.FileCommand.{Check}
use Rattle.rbg_operations.proofs.AnswerLemmas.{game_answers, unloaded_answers}
use Rattle.rbg_operations.proofs.check.answer_read.Goals as goal

pub returns-in-Ok : goal.returns-in-Ok
returns-in-Ok c =
    IfOk-weaker c.count.result _ _
    (λ answer says. game_answers Check c.args.description.now [] c.in-Ok.game answer.text.items answer.status c.in-Ok.ensures.game (λ d. says d [])) c.count.ensures

pub returns-in-Err : goal.returns-in-Err
returns-in-Err c =
    IfOk-weaker c.answer_unloaded.result _ _
    (λ answer says. unloaded_answers Check c.args.description.now [] c.in-Err.error answer.text.items answer.status c.in-Err.ensures.refused says) c.answer_unloaded.ensures
