-- The answer if there is no match. None of these is the answer to refused memory.
use Rattle.std.specs.Prelude.{◌≡◌, List, ℕ}
use Rattle.rbg_console.specs.declared.status.Status.{Status}
use Rattle.rbg_console.specs.declared.status.Status.TheVariants.{Refused, BadInput}
use Rattle.rbg_referee.specs.Answers.{refused_line, script_line}
use Rattle.rbg_referee.specs.declared.input_error.RefereeingError.{RefereeingError}
use Rattle.rbg_referee.specs.declared.input_error.RefereeingError.TheVariants.{Load, Script, Memory}

abbrev pub AnswersFault : RefereeingError → (text : List ℕ) → Status → Type 0
AnswersFault (Load error) text status = (text ≡ refused_line error) × (status ≡ Refused)
AnswersFault (Script number) text status = (text ≡ script_line number) × (status ≡ BadInput)
AnswersFault Memory text status = ⊥
