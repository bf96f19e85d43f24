-- The answer of `referee` to an input: a text that is printed, and a status.
use Rattle.std.specs.Prelude.{ℕ, List, ◌++◌, codes, decimal}
use Rattle.rbg_console.specs.Refusals.{refusal_text}
use Rattle.rbg_console.specs.declared.status.Status.{Status}
use Rattle.rbg_console.specs.declared.status.Status.TheVariants.{Success, Refused, BadInput}
use Rattle.rbg_game.specs.Loading.{Loads, IsRefused, IsMemory}
use Rattle.rbg_game.specs.declared.error.LoadError.{LoadError}
use Rattle.rbg_rules.specs.Meaning.{AbstractGame}
use Rattle.rbg_script.specs.Inputs.{IsInput}
use Rattle.rbg_script.specs.Scripts.{HasMisfit}
use Rattle.rbg_referee.specs.Matches.{IsInputsMatch}

-- the line of a refused description
abbrev pub refused_line : LoadError → List ℕ
refused_line error = codes "refused " ++ (refusal_text error ++ codes "\n")

-- the line of a script that has a line not of its form, or that isn't there
abbrev pub script_line : (number : ℕ) → List ℕ
script_line number = codes "script " ++ (decimal number ++ codes "\n")

-- The answer to an input.
--   played: the input is a description, the mark and a script, and the text is the lines of their match.
--   refused: the description is no game's, and the line names its fault.
--   misfit: the description is a game's, and the line names the first line of the script that isn't of its form.
--   unmarked: the input has no mark.
pub data IsAnswer (input : List ℕ) : (text : List ℕ) → Status → Type 0 where
  played : (lines : List ℕ) → IsInputsMatch input lines → IsAnswer input lines Success
  refused : (description script : List ℕ) (error : LoadError)
      → IsInput input description script
      → IsRefused description error
      → ¬ IsMemory error
      → IsAnswer input (refused_line error) Refused
  misfit : (description script : List ℕ) (game : AbstractGame) (number : ℕ)
      → IsInput input description script
      → Loads description game
      → HasMisfit script number
      → IsAnswer input (script_line number) BadInput
  unmarked : ((description script : List ℕ) → IsInput input description script → ⊥)
      → IsAnswer input (script_line 0) BadInput
