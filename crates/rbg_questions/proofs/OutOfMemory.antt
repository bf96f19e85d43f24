-- Questions without an answer since a request for memory failed.
use Rattle.std.proofs.Common.{◌≡◌, Result, IfErr, IsErrAnd}
use Rattle.rbg_base.proofs.Errors.{passed_on}
use Rattle.rbg_questions.specs.Answering.{IsRefused, out_of_memory}
use Rattle.rbg_questions.specs.Sessions.{AbstractSession}
use Rattle.rbg_questions.specs.declared.question.Question.{Question}
use Rattle.rbg_questions.specs.declared.question_error.QuestionError.{QuestionError}
use Rattle.rbg_questions.specs.declared.question_error.QuestionError.TheVariants.{Memory}

pub memory_refused : {T : Type 0} (session : AbstractSession) (question : Question) (result : Result T QuestionError) → IsErrAnd result (λ e. e ≡ Memory) → IfErr result (IsRefused session question)
memory_refused session question result is = passed_on result Memory (IsRefused session question) is out_of_memory
