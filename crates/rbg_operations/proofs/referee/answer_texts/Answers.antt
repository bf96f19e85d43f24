-- The script was read whole, or it is longer than it may be.
use Rattle.std.proofs.Common.{◌≡◌, subst, sym}
use Rattle.std.proofs.lemmas.Result.{IfOk-weaker}
use Rattle.rbg_console.specs.declared.status.Status.TheVariants.{BadInput}
use Rattle.rbg_referee.specs.Answers.{script_line}
use Rattle.rbg_operations.specs.Tasks.FileCommand.{Referee}
use Rattle.rbg_operations.specs.internal.Parts.{AnswersTexts, AnswersWhole}
use Rattle.rbg_operations.proofs.AnswerLemmas.{long_script_answers, whole_texts}
use Rattle.rbg_referee.proofs.RunCallerLemmas.{both}
use Rattle.rbg_operations.proofs.referee.answer_texts.Goals as goal

pub returns-in-Some : goal.returns-in-Some
returns-in-Some c =
    let read = c.args.texts.now.description in
    IfOk-weaker c.answer_whole.result (λ answer. AnswersWhole Referee read c.as_slice.result.now answer.text.items answer.status)
    (λ answer. AnswersTexts Referee read c.args.texts.now.told answer.text.items answer.status)
    (λ answer answers. subst (λ told. AnswersTexts Referee read told answer.text.items answer.status) (sym c.in-Some.is)
    (whole_texts Referee read c.in-Some.script answer.text.items answer.status
    (subst (λ bytes. AnswersWhole Referee read bytes answer.text.items answer.status) c.as_slice.ensures.value answers)))
    c.answer_whole.ensures

pub returns-in-None : goal.returns-in-None
returns-in-None c =
    let read = c.args.texts.now.description in
    both c.answer_script.result (λ answer. answer.text.items ≡ script_line 0) (λ answer. answer.status ≡ BadInput)
    (λ answer. AnswersTexts Referee read c.args.texts.now.told answer.text.items answer.status)
    (λ answer is was. subst (λ told. AnswersTexts Referee read told answer.text.items answer.status) (sym c.in-None.is)
    (long_script_answers read answer.text.items answer.status is was))
    c.answer_script.ensures.text c.answer_script.ensures.status
