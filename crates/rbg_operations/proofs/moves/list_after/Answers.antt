-- The moves that are listed are the answer, or the fault of the record.
use Rattle.std.proofs.Common.{subst}
use Rattle.std.proofs.lemmas.Result.{IfOk-weaker}
use Rattle.rbg_operations.specs.After.{IsMovesAfter}
use Rattle.rbg_record.specs.Judged.{IsMisfit}
use Rattle.rbg_operations.specs.Answers.IsGamesAnswer.{goes_on}
use Rattle.rbg_operations.specs.internal.Parts.{AnswersChecked}
use Rattle.rbg_operations.proofs.JudgingLemmas.{misfit_answer}
use Rattle.rbg_operations.proofs.moves.list_after.Goals as goal

pub returns-in-Ok : goal.returns-in-Ok
returns-in-Ok c = λ description.
    goes_on c.in-Ok.text.items (subst (λ game. IsMovesAfter game c.args.told.now c.in-Ok.text.items) c.in_ok-played.ensures c.in-Ok.ensures.lines)

pub returns : goal.returns
returns c =
    let misfit = c.in-Err.misfit in
    IfOk-weaker c.answer_checked.result _ _
    (λ answer says. misfit_answer c.args.game c.args.told.now misfit.fault misfit.line answer.text.items answer.status
    (subst (λ game. IsMisfit game c.args.told.now misfit) c.in_ok-played.ensures c.in-Err.ensures.misfit)
    (subst (λ verdict. AnswersChecked verdict answer.text.items answer.status) c.checked.ensures says))
    c.answer_checked.ensures
