-- The line of a refusal stands after the bytes that were there.
use Rattle.rbg_questions.proofs.Answering.{hears_refusal}
use Rattle.rbg_questions.proofs.session.Session.hear.Goals as goal

pub returns-in-Err-clause-hears : goal.returns-in-Err-clause-hears
returns-in-Err-clause-hears c =
    hears_refusal _ _ _ _ _ _ _ _ c.in-Err.ensures.kept c.in-Err.ensures.out c.in-Err.ensures.refused c.write_refusal.ensures.ok
