-- The verdict on the record is true for the game that was passed.
use Rattle.std.proofs.Common.{subst}
use Rattle.std.proofs.lemmas.Result.{IfOk-weaker}
use Rattle.rbg_operations.proofs.JudgingLemmas.{Judges, checked_answer}
use Rattle.rbg_operations.proofs.replay.judge.Goals as goal

pub returns : goal.returns
returns c =
    let checked = c.check_record.result in
    let is = c.check_record.ensures in
    IfOk-weaker c.answer_checked.result _ _
    (λ answer says. checked_answer c.args.game c.args.told.now checked answer.text.items answer.status
    (subst (λ game. Judges game c.args.told.now checked) c.in_ok-played.ensures (record { right = is.good; wrong = is.bad; form = is.form; heavy = is.over })) says)
    c.answer_checked.ensures
