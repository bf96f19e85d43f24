-- Runs of `referee --cut` and of `script`: from the bytes of a file and of standard input to those that the output holds,
-- and the status.
use Rattle.std.specs.Prelude.{◌≡◌, ℕ, ◌<◌, List, [], length, Option, Some, None, codes}
use Rattle.rbg_operations.specs.Answers.{form_line}
use Rattle.rbg_operations.specs.Runs.{IsTaskRun}
use Rattle.rbg_operations.specs.Tasks.FileCommand.{Referee}
use Rattle.rbg_console.specs.Files.{KnownFiles, MayBe}
use Rattle.rbg_console.specs.Inputs.{most_input, IsAll, IsAbove, IsCutOff}
use Rattle.rbg_console.specs.Outputs.{IsWritten}
use Rattle.rbg_console.specs.declared.status.Status.{Status}
use Rattle.rbg_console.specs.declared.status.Status.TheVariants.{Success, BadInput, Device, Memory}
use Rattle.rbg_serving.specs.Cutting.{AreWholeLines}
use Rattle.rbg_referee.specs.Runs.{IsRun, device_line, memory_line}
use Rattle.rbg_record.specs.Scripting.{IsNoRecord, IsScriptOfRecord}

-- A run of `referee` on an input of these bytes, with the description in a file, if one is named.
abbrev pub IsRefereeRun : KnownFiles → (file : Option (List ℕ)) → (input : List ℕ) → (held holds : Option (List ℕ)) → Status → Type 0
IsRefereeRun known None input held holds status = (left : Option (List ℕ)) × IsRun (Some input) left held holds status
IsRefereeRun known (Some file) input held holds status =
    (left : Option (List ℕ))
    × IsTaskRun known (Some input) left (record { command = Referee; file = file; record_file = [] }) held holds status

-- A run of `referee --cut`.
--   refereed: all of standard input was read, and its whole lines were refereed.
--   too_long: it is longer than an input may be.
--   cut_off: it couldn't be read to its end.
--   no_memory: memory ran out.
pub data IsCutRun (known : KnownFiles) (unread left file held holds : Option (List ℕ)) (status : Status) : Type 0 where
  refereed : (input whole : List ℕ)
      → IsAll most_input unread left input
      → AreWholeLines input whole
      → IsRefereeRun known file whole held holds status
      → IsCutRun known unread left file held holds status
  too_long : IsAbove most_input unread left
      → IsWritten held holds (codes "script 0\n") BadInput status
      → IsCutRun known unread left file held holds status
  cut_off : IsCutOff most_input unread left
      → IsWritten held holds device_line Device status
      → IsCutRun known unread left file held holds status
  no_memory : IsWritten held holds memory_line Memory status → IsCutRun known unread left file held holds status

-- a script of the record, or the line that names the record's first line that is missing or not of the form
pub data IsScriptAnswer (bytes text : List ℕ) (status : Status) : Type 0 where
  made : IsScriptOfRecord bytes text → status ≡ Success → IsScriptAnswer bytes text status
  not_of_form : (line : ℕ)
      → IsNoRecord bytes line
      → text ≡ form_line line
      → status ≡ BadInput
      → IsScriptAnswer bytes text status

-- The answer to what the file has, or the line that says that it is too long, or that it can't be read.
pub data IsFilesScript (known : Option (List ℕ)) (text : List ℕ) (status : Status) : Type 0 where
  of_file : (bytes : List ℕ)
      → MayBe known bytes
      → IsScriptAnswer bytes text status
      → IsFilesScript known text status
  too_long : (bytes : List ℕ)
      → MayBe known bytes
      → most_input < length bytes
      → text ≡ form_line 0
      → status ≡ BadInput
      → IsFilesScript known text status
  unreadable : text ≡ device_line → status ≡ Device → IsFilesScript known text status

-- Either the answer is written, or the line that says that memory ran out, and nothing else.
pub data IsScriptRun (known held holds : Option (List ℕ)) (status : Status) : Type 0 where
  answered : (text : List ℕ) (wanted : Status)
      → IsFilesScript known text wanted
      → IsWritten held holds text wanted status
      → IsScriptRun known held holds status
  no_memory : IsWritten held holds memory_line Memory status → IsScriptRun known held holds status
