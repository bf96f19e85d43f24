-- What the parts of an answer and of a reading have to meet.
use Rattle.std.specs.Global.{Global}
use Rattle.std.specs.Prelude.{◌≡◌, ◌≢◌, ℕ, ◌<◌, ◌≤◌, List, length, Option, Some, None, Vec, Result, Ok, Err}
use Rattle.rbg_console.specs.Files.{KnownFiles, MayBe}
use Rattle.rbg_console.specs.Inputs.{most_input}
use Rattle.rbg_console.specs.declared.input.Input.{Input}
use Rattle.rbg_console.specs.declared.input.Input.TheVariants.{Whole, TooLong, Device}
use Rattle.rbg_console.specs.declared.status.Status.{Status}
use Rattle.rbg_console.specs.declared.status.Status.TheVariants.{Success, Refused, BadInput, Device as DeviceStatus}
use Rattle.rbg_game.specs.Loading.{Loads, IsMemory}
use Rattle.rbg_game.specs.declared.error.LoadError.{LoadError}
use Rattle.rbg_record.specs.declared.checked.Checked.{Checked}
use Rattle.rbg_record.specs.declared.checked.Checked.TheVariants.{Good, Bad}
use Rattle.rbg_record.specs.declared.error.RecordError.{RecordError}
use Rattle.rbg_record.specs.declared.error.RecordError.TheVariants.{Form, Over, Memory}
use Rattle.rbg_referee.specs.Answers.{refused_line}
use Rattle.rbg_referee.specs.Runs.{device_line}
use Rattle.rbg_rules.specs.Meaning.{AbstractGame}
use Rattle.rbg_macro.specs.TextLimits.{longest_text}
use Rattle.rbg_operations.specs.Tasks.{FileCommand}
use Rattle.rbg_operations.specs.Tasks.FileCommand.{Check, Referee, Replay, Migrate, Moves}
use Rattle.rbg_operations.specs.Answers.{IsTaskAnswer, good_line, bad_line, form_line, over_line}
use Rattle.rbg_operations.specs.Tasks.{NamedTask, AbstractTask, AsksFor, IsInputOf, IsReadOf, on_record}
use Rattle.rbg_operations.specs.declared.opening.Opened.{Opened}
use Rattle.rbg_operations.specs.declared.opening.Opened.TheVariants.{Both, Answered}

-- the task of these parts
abbrev pub task_of : FileCommand → (description told : List ℕ) → AbstractTask
task_of command description told = record { command = command; description = description; told = told }

-- the answer to a command on what was read of a description, and on this script or record, which is not too long
abbrev pub AnswersWhole : FileCommand → Option (Vec ℕ Global) → (told text : List ℕ) → Status → Type 0
AnswersWhole command read told text status =
    (description : List ℕ)
    → IsReadOf longest_text read description
    → length told ≤ most_input
    → IsTaskAnswer (task_of command description told) text status

-- the answer to a command on what was read of a description, and on a script or record that is too long
abbrev pub AnswersLong : FileCommand → Option (Vec ℕ Global) → (text : List ℕ) → Status → Type 0
AnswersLong command read text status =
    (description told : List ℕ)
    → IsReadOf longest_text read description
    → most_input < length told
    → IsTaskAnswer (task_of command description told) text status

-- the answer to a command on what was read of a description and of a script or a record
abbrev pub AnswersTexts : FileCommand → (description told : Option (Vec ℕ Global)) → (text : List ℕ) → Status → Type 0
AnswersTexts command description told text status =
    (whole script : List ℕ)
    → IsReadOf longest_text description whole
    → IsReadOf most_input told script
    → IsTaskAnswer (task_of command whole script) text status

-- the answer if a record is too long, to any other command than `referee`
abbrev pub AnswersLongRecord : Option (Vec ℕ Global) → (text : List ℕ) → Status → Type 0
AnswersLongRecord read text status = (command : FileCommand) → command ≢ Referee → AnswersLong command read text status

-- the answer to the match of a description and a script that are not too long
abbrev pub AnswersMatch : (description script text : List ℕ) → Status → Type 0
AnswersMatch description script text status =
    length script ≤ most_input → IsTaskAnswer (task_of Referee description script) text status

-- the line of a description that is not loaded; refused memory has none
abbrev pub AnswersUnloaded : LoadError → (text : List ℕ) → Status → Type 0
AnswersUnloaded error text status = (¬ IsMemory error) × (text ≡ refused_line error) × (status ≡ Refused)

-- the line of a fault of a record; refused memory has none
abbrev pub AnswersRecordError : RecordError → (text : List ℕ) → Status → Type 0
AnswersRecordError (Form line) text status = (text ≡ form_line line) × (status ≡ BadInput)
AnswersRecordError (Over line) text status = (text ≡ over_line line) × (status ≡ BadInput)
AnswersRecordError Memory text status = ⊥

-- the line of the verdict on a record
abbrev pub AnswersChecked : Result Checked RecordError → (text : List ℕ) → Status → Type 0
AnswersChecked (Ok Good) text status = (text ≡ good_line) × (status ≡ Success)
AnswersChecked (Ok (Bad line)) text status = (text ≡ bad_line line) × (status ≡ BadInput)
AnswersChecked (Err error) text status = AnswersRecordError error text status

-- what a reading gives: None if there is too much, and nothing if the device failed
abbrev pub Gives : Input → Option (Vec ℕ Global) → Type 0
Gives (Whole bytes) read = read ≡ Some bytes
Gives TooLong read = read ≡ None
Gives Device read = ⊥

-- this was read of a file
pub record IsReadIn (limit : ℕ) (known : Option (List ℕ)) (read : Option (Vec ℕ Global)) : Type 0 where
  pub bytes : List ℕ
  pub may : MayBe known bytes
  pub reads : IsReadOf limit read bytes

-- this was read of standard input
pub record IsReadInput (unread left : Option (List ℕ)) (read : Option (Vec ℕ Global)) : Type 0 where
  pub bytes : List ℕ
  pub input : IsInputOf unread left bytes
  pub reads : IsReadOf most_input read bytes

-- the command is one on a record
abbrev pub IsOnRecord : FileCommand → Type 0
IsOnRecord Check = ⊥
IsOnRecord Referee = ⊥
IsOnRecord Replay = Unit {0}
IsOnRecord Migrate = Unit {0}
IsOnRecord Moves = Unit {0}

-- the answer to what the files and standard input have
pub data IsFilesAnswer (known : KnownFiles) (unread left : Option (List ℕ)) (named : NamedTask) (text : List ℕ) (status : Status) : Type 0 where
  of_task : (task : AbstractTask)
      → AsksFor known unread left named task
      → IsTaskAnswer task text status
      → IsFilesAnswer known unread left named text status
  unreadable : text ≡ device_line → status ≡ DeviceStatus → IsFilesAnswer known unread left named text status

-- The game of a file's description, and the bytes of a record, which are not too many.
pub record AreOpened (known : KnownFiles) (file other : List ℕ) (game : AbstractGame) (told : List ℕ) : Type 0 where
  pub description : List ℕ
  pub is_file : MayBe (known file) description
  pub loads : Loads description game
  pub is_record : MayBe (known other) told
  pub fits : length told ≤ most_input

-- the answer to each command on the record of a game, whatever standard input has
abbrev pub AnswersBoth : KnownFiles → (file other text : List ℕ) → Status → Type 0
AnswersBoth known file other text status =
    (command : FileCommand)
    → IsOnRecord command
    → (unread : Option (List ℕ))
    → IsFilesAnswer known unread unread (on_record command file other) text status

-- the game and the record of two files, or the answer to each command on them
abbrev pub OpensFiles : KnownFiles → (file other : List ℕ) → Opened → Type 0
OpensFiles known file other (Both game told) = AreOpened known file other game told.items
OpensFiles known file other (Answered answer) = AnswersBoth known file other answer.text.items answer.status

-- the same of what was read of them
abbrev pub OpensTexts : (description told : Option (Vec ℕ Global)) → Opened → Type 0
OpensTexts description told (Both game record_bytes) =
    ((whole : List ℕ) → IsReadOf longest_text description whole → Loads whole game) × (told ≡ Some record_bytes)
OpensTexts description told (Answered answer) =
    (command : FileCommand) → command ≢ Referee → AnswersTexts command description told answer.text.items answer.status

-- the answer if a file can't be read
abbrev pub OpensNone : Opened → Type 0
OpensNone (Both game told) = ⊥
OpensNone (Answered answer) = (answer.text.items ≡ device_line) × (answer.status ≡ DeviceStatus)
