-- The end of a session has no lines.
use Rattle.rbg_questions.proofs.Answering.{ends_quietly, no_farewell}
use Rattle.rbg_questions.proofs.session.Session.answer.Goals as goal

pub returns-in-Quit-clause-answers : goal.returns-in-Quit-clause-answers
returns-in-Quit-clause-answers c = rw c.in-Quit.is (ends_quietly _ _ no_farewell)
