-- All that was read is answered.
use Rattle.rbg_base.proofs.Common.{subst, IfOk-weaker}
use Rattle.rbg_console.specs.Inputs.{most_input, IsAll, IsReading}
use Rattle.rbg_referee.specs.Answers.{IsAnswer}
use Rattle.rbg_referee.specs.Runs.{IsReadersAnswer}
use Rattle.rbg_referee.specs.Runs.IsReadersAnswer.{whole}
use Rattle.rbg_referee.proofs.run.answer_reader.Goals as goal

pub returns-in-Whole : goal.returns-in-Whole
returns-in-Whole g c =
    let unread = g.R.Read.remaining c.args.input.now in
    let left = g.R.Read.remaining c.read_input.new.reader in
    let all : IsAll most_input unread left c.in-Whole.bytes.items = subst (IsReading most_input unread left) c.in-Whole.is c.in_ok-bytes.ensures in
    IfOk-weaker c.answer_input.result (λ answer. IsAnswer c.as_slice.result.now answer.text.items answer.status) (λ answer. IsReadersAnswer unread left answer.text.items answer.status)
    (λ answer is. whole c.in-Whole.bytes.items all (subst (λ input. IsAnswer input answer.text.items answer.status) c.as_slice.ensures.value is)) c.answer_input.ensures
