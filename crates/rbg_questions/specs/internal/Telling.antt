-- What a call does that answers a question and leaves the session as it is.
use Rattle.std.specs.Prelude.{◌≡◌, ℕ, List, Result, IfErr, OnErr, OnOk}
use Rattle.rbg_questions.specs.declared.question.Question.{Question}
use Rattle.rbg_questions.specs.declared.question_error.QuestionError.{QuestionError}
use Rattle.rbg_questions.specs.Answering.{AnswersIn, IsRefused}
use Rattle.rbg_questions.specs.Sessions.{AbstractSession}

-- the answer stands after the bytes that were there, or the question is refused and the bytes are as before
pub record Tells (session : AbstractSession) (question : Question) (before after : List ℕ)
    (result : Result (Unit {0}) QuestionError) : Type 0 where
  pub answers : OnOk result (AnswersIn session question session before after)
  pub refused : IfErr result (IsRefused session question)
  pub out : OnErr result (after ≡ before)
