-- The new record is the answer, or the fault of the old one.
use Rattle.std.proofs.Common.{ap, Err}
use Rattle.std.proofs.lemmas.Result.{IfOk-weaker}
use Rattle.rbg_operations.specs.Answers.IsGamesAnswer.{migrated}
use Rattle.rbg_operations.proofs.JudgingLemmas.{plain_fault_answer}
use Rattle.rbg_operations.proofs.migrate.rewrite.Goals as goal

pub returns-in-Ok : goal.returns-in-Ok
returns-in-Ok c = λ description. migrated c.in-Ok.text.items c.in-Ok.ensures.migrated

pub returns-in-Err : goal.returns-in-Err
returns-in-Err c =
    IfOk-weaker c.answer_record_fault.result _ _
    (λ answer says. plain_fault_answer c.args.game.now c.args.told.now c.in-Err.error answer.text.items answer.status
    (λ line same. c.in-Err.ensures.form line (ap (λ e. Err e) same)) (λ line same. c.in-Err.ensures.never_over line (ap (λ e. Err e) same)) says)
    c.answer_record_fault.ensures
