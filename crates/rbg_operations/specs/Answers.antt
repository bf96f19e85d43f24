-- The answer to a task: a text that is printed, and a status.
use Rattle.std.specs.Prelude.{◌≡◌, ◌≢◌, ℕ, ◌<◌, ◌≤◌, List, ◌++◌, length, codes, decimal}
use Rattle.rbg_console.specs.Counts.{counts_of}
use Rattle.rbg_console.specs.Inputs.{most_input}
use Rattle.rbg_console.specs.declared.status.Status.{Status}
use Rattle.rbg_console.specs.declared.status.Status.TheVariants.{Success, Refused, BadInput}
use Rattle.rbg_game.specs.Loading.{Loads, IsRefused, IsMemory}
use Rattle.rbg_game.specs.declared.error.LoadError.{LoadError}
use Rattle.rbg_operations.specs.After.{IsMovesAfter}
use Rattle.rbg_record.specs.Judged.{IsBadLine, IsFormFault, IsHeavyLine}
use Rattle.rbg_record.specs.Migration.{IsMigrated, IsPlainFault}
use Rattle.rbg_record.specs.Right.{IsRightRecord}
use Rattle.rbg_referee.specs.Answers.{refused_line, script_line}
use Rattle.rbg_referee.specs.Matches.{IsScriptsMatch}
use Rattle.rbg_rules.specs.Meaning.{AbstractGame}
use Rattle.rbg_script.specs.Scripts.{HasMisfit}
use Rattle.rbg_operations.specs.Tasks.{FileCommand}
use Rattle.rbg_operations.specs.Tasks.FileCommand.{Check, Referee, Replay, Migrate, Moves}
use Rattle.rbg_operations.specs.Tasks.{AbstractTask}

-- the lines of a right record, and of one of which a line is not right, not of the form, or above the limits
abbrev pub good_line : List ℕ
good_line = codes "good\n"

abbrev pub bad_line : (line : ℕ) → List ℕ
bad_line line = codes "bad " ++ (decimal line ++ codes "\n")

abbrev pub form_line : (line : ℕ) → List ℕ
form_line line = codes "form " ++ (decimal line ++ codes "\n")

abbrev pub over_line : (line : ℕ) → List ℕ
over_line line = codes "over " ++ (decimal line ++ codes "\n")

-- The answer names the first line of the record that is not right, not of the form, or asks a question above the
-- limits.
pub data NamesFault (game : AbstractGame) (told : List ℕ) : (text : List ℕ) → Type 0 where
  bad : (line : ℕ) → IsBadLine game told line → NamesFault game told (bad_line line)
  not_of_form : (line : ℕ) → IsFormFault game told line → NamesFault game told (form_line line)
  over : (line : ℕ) → IsHeavyLine game told line → NamesFault game told (over_line line)

-- The answer if the description is that of a game, and the second text is not too long.
--   counted: how many of each thing the game has.
--   played, misfit: the lines of the script's match, or the script's first line that is not of its form.
--   good, wrong: the record is right, or its fault is named.
--   migrated, not_plain: version 2 of the record, or its first line that is not of the form of version 1.
--   goes_on, no_moves: how play can continue after the record, or its fault is named.
pub data IsGamesAnswer (game : AbstractGame) (description told : List ℕ) : FileCommand → (text : List ℕ) → Status → Type 0 where
  counted : IsGamesAnswer game description told Check (counts_of game ++ codes "\n") Success
  played : (lines : List ℕ)
      → IsScriptsMatch description told lines
      → IsGamesAnswer game description told Referee lines Success
  misfit : (line : ℕ)
      → HasMisfit told line
      → IsGamesAnswer game description told Referee (script_line line) BadInput
  good : IsRightRecord game told → IsGamesAnswer game description told Replay good_line Success
  wrong : (text : List ℕ) → NamesFault game told text → IsGamesAnswer game description told Replay text BadInput
  migrated : (new : List ℕ) → IsMigrated game told new → IsGamesAnswer game description told Migrate new Success
  not_plain : (line : ℕ)
      → IsPlainFault told line
      → IsGamesAnswer game description told Migrate (form_line line) BadInput
  goes_on : (text : List ℕ)
      → IsMovesAfter game told text
      → IsGamesAnswer game description told Moves text Success
  no_moves : (text : List ℕ) → NamesFault game told text → IsGamesAnswer game description told Moves text BadInput

-- the second text, a script or a record, is longer than it may be
abbrev pub IsLong : AbstractTask → Type 0
IsLong task = most_input < length task.told

-- The answer to a task. A fault of the description comes before one of the second text, but a script that is too long
-- comes first.
pub data IsTaskAnswer (task : AbstractTask) : (text : List ℕ) → Status → Type 0 where
  of_game : (game : AbstractGame) (text : List ℕ) (status : Status)
      → Loads task.description game
      → length task.told ≤ most_input
      → IsGamesAnswer game task.description task.told task.command text status
      → IsTaskAnswer task text status
  refused : (error : LoadError)
      → IsRefused task.description error
      → ¬ IsMemory error
      → (task.command ≡ Referee → ¬ IsLong task)
      → IsTaskAnswer task (refused_line error) Refused
  long_script : task.command ≡ Referee → IsLong task → IsTaskAnswer task (script_line 0) BadInput
  long_record : (game : AbstractGame)
      → Loads task.description game
      → task.command ≢ Referee
      → IsLong task
      → IsTaskAnswer task (form_line 0) BadInput
