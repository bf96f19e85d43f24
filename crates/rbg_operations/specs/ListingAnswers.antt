-- The answer of `moves` to a description: a text that is printed, and a status.
use Rattle.std.specs.Prelude.{◌≡◌, ℕ, List}
use Rattle.rbg_console.specs.declared.status.Status.{Status}
use Rattle.rbg_console.specs.declared.status.Status.TheVariants.{Success, Refused}
use Rattle.rbg_game.specs.Loading.{IsRefused, IsMemory}
use Rattle.rbg_game.specs.declared.error.LoadError.{LoadError}
use Rattle.rbg_referee.specs.Answers.{refused_line}
use Rattle.rbg_operations.specs.Openings.{IsOpeningText}

-- the lines of the game's opening, or the line of the description's fault
pub data IsMovesAnswer (description text : List ℕ) (status : Status) : Type 0 where
  opened : IsOpeningText description text → status ≡ Success → IsMovesAnswer description text status
  refused : (error : LoadError)
      → IsRefused description error
      → ¬ IsMemory error
      → text ≡ refused_line error
      → status ≡ Refused
      → IsMovesAnswer description text status
