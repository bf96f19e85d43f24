-- A run of `referee` with a record: from the bytes of its files and of standard input to those that its output and the
-- new file hold, and the status.
use Rattle.std.specs.Prelude.{◌≡◌, ◌≢◌, ℕ, List, [], Option, Some, None}
use Rattle.rbg_console.specs.Files.{KnownFiles, MayBe}
use Rattle.rbg_console.specs.Inputs.{most_input, IsAll}
use Rattle.rbg_console.specs.declared.status.Status.{Status}
use Rattle.rbg_console.specs.declared.status.Status.TheVariants.{Success, Device}
use Rattle.rbg_script.specs.Inputs.{IsInput}
use Rattle.rbg_referee.specs.Runs.{IsReadersAnswer, IsRunOf, device_line}
use Rattle.rbg_operations.specs.Answers.{IsTaskAnswer}
use Rattle.rbg_operations.specs.Recorded.{IsRecorded}
use Rattle.rbg_operations.specs.Tasks.{AbstractTask, AsksFor}
use Rattle.rbg_operations.specs.Tasks.FileCommand.{Referee}
use Rattle.rbg_operations.specs.Tasks.{RecordedTask}

-- The description and the script: both are in all of standard input, or the description is a file's, if one is named,
-- and the script is all of standard input.
abbrev pub HasTexts : KnownFiles → (unread left file : Option (List ℕ)) → (description script : List ℕ) → Type 0
HasTexts known unread left None description script =
    (input : List ℕ) × IsAll most_input unread left input × IsInput input description script
HasTexts known unread left (Some file) description script =
    MayBe (known file) description × IsAll most_input unread left script

-- the answer without a record
abbrev pub IsPlainAnswer : KnownFiles → (unread left file : Option (List ℕ)) → (text : List ℕ) → Status → Type 0
IsPlainAnswer known unread left None text status = IsReadersAnswer unread left text status
IsPlainAnswer known unread left (Some file) text status =
    (task : AbstractTask)
    × AsksFor known unread left (record { command = Referee; file = file; record_file = [] }) task
    × IsTaskAnswer task text status

-- The answer, from the files as they were known to those that are known after.
--   recorded: no file was known by the record's name, and the text is the lines of the match. If what is
--     written to new files is known, that one has the match's record, which is right.
--   unplayed: there is no match, and the answer is the one that is given without a record.
--   failed: a file or standard input can't be read, or the file for the record can't be created or written.
pub data IsRecordedAnswer (tells : Type 0) (known after : KnownFiles) (unread left : Option (List ℕ)) (named : RecordedTask) (text : List ℕ) (status : Status) : Type 0 where
  recorded : (description script told : List ℕ)
      → HasTexts known unread left named.file description script
      → IsRecorded description script text told
      → known named.record_file ≡ None
      → (tells → after named.record_file ≡ Some told)
      → status ≡ Success
      → IsRecordedAnswer tells known after unread left named text status
  unplayed : IsPlainAnswer known unread left named.file text status
      → status ≢ Success
      → IsRecordedAnswer tells known after unread left named text status
  failed : text ≡ device_line
      → status ≡ Device
      → IsRecordedAnswer tells known after unread left named text status

-- What was read is answered.
abbrev pub IsRecordedRun : (tells : Type 0) → (known after : KnownFiles) → (unread left : Option (List ℕ)) → RecordedTask → (held holds : Option (List ℕ)) → Status → Type 0
IsRecordedRun tells known after unread left named held holds status =
    IsRunOf (IsRecordedAnswer tells known after unread left named) held holds status
