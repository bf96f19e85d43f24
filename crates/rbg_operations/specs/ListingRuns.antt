-- A run of `moves`: from the bytes of its file to those that its output holds, and the status.
use Rattle.std.specs.Prelude.{◌≡◌, ℕ, List, Option}
use Rattle.rbg_console.specs.Files.{MayBe}
use Rattle.rbg_console.specs.declared.status.Status.{Status}
use Rattle.rbg_console.specs.declared.status.Status.TheVariants.{Device}
use Rattle.rbg_referee.specs.Runs.{IsRunOf, device_line}
use Rattle.rbg_operations.specs.ListingAnswers.{IsMovesAnswer}

-- the answer to what the file has, or the line `device` if it can't be read
pub data IsFilesMoves (known : Option (List ℕ)) (text : List ℕ) (status : Status) : Type 0 where
  of_file : (description : List ℕ)
      → MayBe known description
      → IsMovesAnswer description text status
      → IsFilesMoves known text status
  unreadable : text ≡ device_line → status ≡ Device → IsFilesMoves known text status

-- What the file has is answered.
abbrev pub IsMovesRun : (known held holds : Option (List ℕ)) → Status → Type 0
IsMovesRun known held holds status = IsRunOf (IsFilesMoves known) held holds status
