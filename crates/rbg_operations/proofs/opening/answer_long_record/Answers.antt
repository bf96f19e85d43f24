-- A record that is too long is reported, or the refusal of the description.
use Rattle.std.proofs.Common.{◌≡◌, subst, sym, IfOk}
use Rattle.std.proofs.lemmas.Result.{IfOk-weaker}
use Rattle.rbg_console.specs.declared.status.Status.TheVariants.{BadInput}
use Rattle.rbg_operations.specs.Answers.{form_line}
use Rattle.rbg_operations.specs.internal.Parts.{AnswersLongRecord, AnswersUnloaded}
use Rattle.rbg_operations.proofs.AnswerLemmas.{long_record_answers, unloaded_answers_long}
use Rattle.rbg_referee.proofs.RunCallerLemmas.{both}
use Rattle.rbg_operations.proofs.opening.answer_long_record.Goals.{in-Ok, in-Err}
use Rattle.rbg_operations.proofs.opening.answer_long_record.Goals as goal

pub returns : goal.returns
returns c =
    let read = c.args.description.now in
    elim c.match-load_read.branch [
      | in-Ok w ↦ subst (λ r. IfOk r (λ answer. AnswersLongRecord read answer.text.items answer.status)) (sym w.result-is)
          (both w.answer_form.result (λ answer. answer.text.items ≡ form_line 0) (λ answer. answer.status ≡ BadInput)
          (λ answer. AnswersLongRecord read answer.text.items answer.status)
          (λ answer is was. long_record_answers read w.in-Ok.field-0 answer.text.items answer.status w.in-Ok.ensures.game is was)
          w.answer_form.ensures.text w.answer_form.ensures.status)
      | in-Err w ↦ subst (λ r. IfOk r (λ answer. AnswersLongRecord read answer.text.items answer.status)) (sym w.result-is)
          (IfOk-weaker w.answer_unloaded.result (λ answer. AnswersUnloaded w.in-Err.error answer.text.items answer.status)
          (λ answer. AnswersLongRecord read answer.text.items answer.status)
          (λ answer says. unloaded_answers_long read w.in-Err.error answer.text.items answer.status w.in-Err.ensures.refused says)
          w.answer_unloaded.ensures)
    ]
