-- What is answered to descriptions and a script: a text that is printed, and a status.
use Rattle.std.specs.Prelude.{◌≡◌, ℕ, List}
use Rattle.rbg_console.specs.declared.status.Status.{Status}
use Rattle.rbg_console.specs.declared.status.Status.TheVariants.{Success, BadInput}
use Rattle.rbg_referee.specs.Answers.{script_line}
use Rattle.rbg_referee.specs.Faults as of_inputs
use Rattle.rbg_hosting.specs.declared.error.HostingError.{HostingError}
use Rattle.rbg_hosting.specs.declared.error.HostingError.TheVariants.{Tables, Input}
use Rattle.rbg_hosting.specs.Halls.{IsNoHall, IsScriptsHall}

-- the line of what is wrong, and its status
abbrev pub AnswersFault : HostingError → (text : List ℕ) → Status → Type 0
AnswersFault Tables text status = (text ≡ script_line 0) × (status ≡ BadInput)
AnswersFault (Input error) text status = of_inputs.AnswersFault error text status

-- The answer to descriptions and a script.
--   heard: the text is the printed lines of the hall that hears the script.
--   unheard: there is no such hall or no such script, and the text says why.
pub data IsHallAnswer (descriptions : List (List ℕ)) (script : List ℕ) : (text : List ℕ) → Status → Type 0 where
  heard : (printed : List ℕ)
      → IsScriptsHall descriptions script printed
      → IsHallAnswer descriptions script printed Success
  unheard : (error : HostingError) (text : List ℕ) (status : Status)
      → IsNoHall descriptions script error
      → AnswersFault error text status
      → IsHallAnswer descriptions script text status
