-- A run of `referee`: from the bytes that its input had to those that its output holds, and the status.
use Rattle.std.specs.Prelude.{◌≡◌, ℕ, List, Option, Result, Ok, Err, codes}
use Rattle.rbg_console.specs.Inputs.{most_input, IsAll, IsAbove, IsCutOff}
use Rattle.rbg_console.specs.Outputs.{IsWritten}
use Rattle.rbg_console.specs.declared.status.Status.{Status}
use Rattle.rbg_console.specs.declared.status.Status.TheVariants.{BadInput, Device, Memory}
use Rattle.rbg_referee.specs.declared.answer.Answer.{Answer}
use Rattle.rbg_referee.specs.Answers.{script_line, IsAnswer}

-- the line of an input that can't be read
abbrev pub device_line : List ℕ
device_line = codes "device\n"

-- the line of refused memory
abbrev pub memory_line : List ℕ
memory_line = codes "memory\n"

-- The answer to what a reader had, and what it has left now.
--   whole: all of it was read, and is answered.
--   too_long: it is longer than an input may be.
--   cut_off: it couldn't be read to its end.
pub data IsReadersAnswer (unread left : Option (List ℕ)) (text : List ℕ) (status : Status) : Type 0 where
  whole : (input : List ℕ)
      → IsAll most_input unread left input
      → IsAnswer input text status
      → IsReadersAnswer unread left text status
  too_long : IsAbove most_input unread left
      → text ≡ script_line 0
      → status ≡ BadInput
      → IsReadersAnswer unread left text status
  cut_off : IsCutOff most_input unread left
      → text ≡ device_line
      → status ≡ Device
      → IsReadersAnswer unread left text status

-- The output held some bytes and holds more now. Either a right answer is written, or memory ran out and the line
-- `memory` is written: that one line alone.
pub data IsRunOf (Answers : (text : List ℕ) → Status → Type 0) (held holds : Option (List ℕ)) (status : Status) : Type 0 where
  answered : (text : List ℕ) (wanted : Status)
      → Answers text wanted
      → IsWritten held holds text wanted status
      → IsRunOf Answers held holds status
  no_memory : IsWritten held holds memory_line Memory status → IsRunOf Answers held holds status

-- The input had some bytes unread and has the others left, and what was read is answered.
abbrev pub IsRun : (unread left held holds : Option (List ℕ)) → Status → Type 0
IsRun unread left held holds status = IsRunOf (IsReadersAnswer unread left) held holds status

-- This answer is written, or the line `memory`.
abbrev pub WritesAnswer : {E : Type 0} → Result Answer E → (held holds : Option (List ℕ)) → Status → Type 0
WritesAnswer (Ok answer) held holds status = IsWritten held holds answer.text.items answer.status status
WritesAnswer (Err _) held holds status = IsWritten held holds memory_line Memory status
