-- The refusal is the answer to each command on the record.
use Rattle.rbg_operations.proofs.AnswerLemmas.{unloaded_answers, whole_texts}
use Rattle.rbg_operations.proofs.opening.open_whole.Goals as goal

pub returns-in_ok-answer-in-Err : goal.returns-in_ok-answer-in-Err
returns-in_ok-answer-in-Err c =
    let read = c.args.description.now in
    let answer = c.in_ok-answer-in-Err.answer in
    λ command other. whole_texts command read c.args.told answer.text.items answer.status
    (unloaded_answers command read c.args.told.items c.in-Err.error answer.text.items answer.status c.in-Err.ensures.refused c.in_ok-answer-in-Err.ensures)
