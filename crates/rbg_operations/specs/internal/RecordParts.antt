-- What the parts of an answer with a record have to meet.
use Rattle.std.specs.Prelude.{◌≡◌, ◌≢◌, ℕ, ◌≤◌, List, length, Option, Some, None}
use Rattle.rbg_console.specs.Inputs.{most_input}
use Rattle.rbg_console.specs.declared.status.Status.{Status}
use Rattle.rbg_console.specs.declared.status.Status.TheVariants.{Success, BadInput, Device}
use Rattle.rbg_referee.specs.Answers.{script_line}
use Rattle.rbg_referee.specs.Faults.{AnswersFault}
use Rattle.rbg_referee.specs.Matches.{IsNoMatch}
use Rattle.rbg_referee.specs.Runs.{device_line}
use Rattle.rbg_referee.specs.declared.input_error.RefereeingError.{RefereeingError}
use Rattle.rbg_script.specs.Inputs.{IsInput}
use Rattle.rbg_operations.specs.Answers.{IsTaskAnswer}
use Rattle.rbg_operations.specs.Recorded.{IsRecorded}
use Rattle.rbg_operations.specs.Tasks.{AbstractTask}

-- the record is in its file, and the lines of the match are the answer; or the file can't be written
pub data WritesRecord (tells : Type 0) (after : Option (List ℕ)) (lines told text : List ℕ) (status : Status) : Type 0 where
  written : (tells → after ≡ Some told) → text ≡ lines → status ≡ Success → WritesRecord tells after lines told text status
  unwritten : text ≡ device_line → status ≡ Device → WritesRecord tells after lines told text status

-- the same of the match of two texts, or there is none
pub data RecordsMatch (tells : Type 0) (after : Option (List ℕ)) (description script text : List ℕ) (status : Status) : Type 0 where
  recorded : (told : List ℕ)
      → IsRecorded description script text told
      → (tells → after ≡ Some told)
      → status ≡ Success
      → RecordsMatch tells after description script text status
  unplayed : (error : RefereeingError)
      → IsNoMatch description script error
      → AnswersFault error text status
      → RecordsMatch tells after description script text status
  failed : text ≡ device_line → status ≡ Device → RecordsMatch tells after description script text status

-- the same if the file is created first
pub data RecordsTexts (tells : Type 0) (known after : Option (List ℕ)) (description script text : List ℕ) (status : Status) : Type 0 where
  created : known ≡ None
      → RecordsMatch tells after description script text status
      → RecordsTexts tells known after description script text status
  uncreated : text ≡ device_line → status ≡ Device → RecordsTexts tells known after description script text status

-- the same of an input, which may have no mark
pub data RecordsInput (tells : Type 0) (known after : Option (List ℕ)) (input text : List ℕ) (status : Status) : Type 0 where
  marked : (description script : List ℕ)
      → IsInput input description script
      → RecordsTexts tells known after description script text status
      → RecordsInput tells known after input text status
  unmarked : ((description script : List ℕ) → IsInput input description script → ⊥)
      → text ≡ script_line 0
      → status ≡ BadInput
      → RecordsInput tells known after input text status

-- the same of a task, or it has an answer without a record
pub data RecordsTask (tells : Type 0) (known after : Option (List ℕ)) (task : AbstractTask) (text : List ℕ) (status : Status) : Type 0 where
  texts : length task.told ≤ most_input
      → RecordsTexts tells known after task.description task.told text status
      → RecordsTask tells known after task text status
  plain : IsTaskAnswer task text status → status ≢ Success → RecordsTask tells known after task text status
