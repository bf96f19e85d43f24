-- Too long a description is refused.
use Rattle.std.proofs.Common.{◌≡◌, subst}
use Rattle.rbg_console.specs.declared.status.Status.TheVariants.{Refused}
use Rattle.rbg_game.specs.declared.error.LoadError.TheVariants.{Text}
use Rattle.rbg_referee.specs.Answers.{refused_line}
use Rattle.rbg_macro.specs.TextLimits.{longest_text}
use Rattle.rbg_macro.specs.declared.text_error.TextError.TheVariants.{TooLong}
use Rattle.rbg_operations.specs.Tasks.{IsReadOf}
use Rattle.rbg_operations.specs.Tasks.FileCommand.{Referee}
use Rattle.rbg_operations.specs.internal.Parts.{AnswersWhole}
use Rattle.rbg_operations.proofs.AnswerLemmas.{long_known, refusal_answers}
use Rattle.rbg_referee.proofs.RunCallerLemmas.{both, long_refused}
use Rattle.rbg_operations.proofs.referee.answer_whole.Goals as goal

pub returns-in-None : goal.returns-in-None
returns-in-None c =
    let read = c.args.description.now in
    let told = c.args.script.now in
    both c.answer_refused.result (λ answer. answer.text.items ≡ refused_line (Text TooLong)) (λ answer. answer.status ≡ Refused)
    (λ answer. AnswersWhole Referee read told answer.text.items answer.status)
    (λ answer is was. refusal_answers Referee read told (Text TooLong) answer.text.items answer.status
    (λ d reads. long_refused d (subst (λ r. IsReadOf longest_text r d) c.in-None.is reads)) long_known is was)
    c.answer_refused.ensures.text c.answer_refused.ensures.status
