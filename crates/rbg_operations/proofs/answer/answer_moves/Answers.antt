-- The lines of the opening, or the refusal.
use Rattle.std.proofs.Common.{◌≡◌}
use Rattle.std.proofs.lemmas.Result.{IfOk-weaker}
use Rattle.rbg_console.specs.declared.status.Status.TheVariants.{Success}
use Rattle.rbg_operations.specs.ListingAnswers.{IsMovesAnswer}
use Rattle.rbg_operations.specs.ListingAnswers.IsMovesAnswer.{opened, refused}
use Rattle.rbg_operations.specs.Openings.{IsOpeningText}
use Rattle.rbg_referee.proofs.RunCallerLemmas.{both}
use Rattle.rbg_operations.proofs.answer.answer_moves.Goals as goal

pub returns-in-Ok : goal.returns-in-Ok
returns-in-Ok c =
    let text = c.args.text.now in
    both c.answer_game.result (λ answer. IsOpeningText text answer.text.items) (λ answer. answer.status ≡ Success)
    (λ answer. IsMovesAnswer text answer.text.items answer.status) (λ answer is was. opened is was) c.answer_game.ensures.lines c.answer_game.ensures.status

pub returns-in-Err : goal.returns-in-Err
returns-in-Err c =
    IfOk-weaker c.answer_unloaded.result _ _
    (λ answer says. refused c.in-Err.error c.in-Err.ensures.refused says.0 says.1 says.2) c.answer_unloaded.ensures
