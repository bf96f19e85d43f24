-- Lemmas on the answer to an input.
use Rattle.std.proofs.Common.{◌≡◌, ℕ, List, sym, subst}
use Rattle.rbg_console.specs.declared.status.Status.{Status}
use Rattle.rbg_console.specs.declared.status.Status.TheVariants.{Refused, BadInput}
use Rattle.rbg_script.specs.Inputs.{IsInput}
use Rattle.rbg_referee.specs.Answers.{IsAnswer, script_line, refused_line}
use Rattle.rbg_referee.specs.Answers.IsAnswer.{refused, misfit, unmarked}
use Rattle.rbg_referee.specs.Matches.{IsNoInput, IsNoMatch}
use Rattle.rbg_referee.specs.Matches.IsNoInput.{no_mark, no_match}
use Rattle.rbg_referee.specs.declared.input_error.RefereeingError.{RefereeingError}
use Rattle.rbg_referee.specs.declared.input_error.RefereeingError.TheVariants.{Load, Script, Memory}
use Rattle.rbg_referee.specs.Faults.{AnswersFault}

-- the answer with this text and this status
answer_with : (input text outgoing : List ℕ) (status ended : Status) → text ≡ outgoing → status ≡ ended → IsAnswer input outgoing ended → IsAnswer input text status
answer_with input text outgoing status ended is was answer =
    subst (λ t. IsAnswer input t status) (sym is) (subst (IsAnswer input outgoing) (sym was) answer)

-- an input with no mark
unmarked_answer : (input text : List ℕ) (status : Status) → ((description script : List ℕ) → IsInput input description script → ⊥) → AnswersFault (Script 0) text status → IsAnswer input text status
unmarked_answer input text status none says = answer_with input text (script_line 0) status BadInput says.0 says.1 (unmarked none)

-- an input whose parts have no match
matchless_answer : (input description script : List ℕ) (error : RefereeingError) (text : List ℕ) (status : Status) → IsInput input description script → IsNoMatch description script error → AnswersFault error text status → IsAnswer input text status
matchless_answer input description script (Load error) text status is why says =
    answer_with input text (refused_line error) status Refused says.0 says.1 (refused description script error is why.0 why.1)
matchless_answer input description script (Script number) text status is why says =
    answer_with input text (script_line number) status BadInput says.0 says.1 (misfit description script why.0 number is why.1 why.2)
matchless_answer input description script Memory text status is why says = absurd says

pub fault_answer : (input : List ℕ) (error : RefereeingError) (text : List ℕ) (status : Status) → IsNoInput input error → AnswersFault error text status → IsAnswer input text status
fault_answer input error text status (no_mark none is) says = unmarked_answer input text status none (subst (λ e. AnswersFault e text status) is says)
fault_answer input error text status (no_match description script is why) says = matchless_answer input description script error text status is why says
