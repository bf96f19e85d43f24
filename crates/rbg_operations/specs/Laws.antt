-- Laws of answers.
use Rattle.std.specs.Prelude.{◌≡◌, ◌⊎◌, ℕ, ◌≤◌, List, length}
use Rattle.rbg_console.specs.Inputs.{most_input}
use Rattle.rbg_console.specs.declared.status.Status.{Status}
use Rattle.rbg_console.specs.declared.status.Status.TheVariants.{Success, BadInput}
use Rattle.rbg_game.specs.Loading.{Loads}
use Rattle.rbg_record.specs.Judged.{IsHeavyLine}
use Rattle.rbg_record.specs.Right.{IsRightRecord}
use Rattle.rbg_referee.specs.Matches.{IsScriptsMatch}
use Rattle.rbg_rules.specs.Meaning.{AbstractGame}
use Rattle.rbg_operations.specs.Tasks.FileCommand.{Replay}
use Rattle.rbg_operations.specs.Answers.{IsTaskAnswer, good_line, over_line}
use Rattle.rbg_operations.specs.Recorded.{IsRecorded}
use Rattle.rbg_operations.specs.Tasks.{AbstractTask}

-- The only answer about a right record of a game is that it is good, unless a question is above the limits.
abbrev pub RightRecordsAreGood : Type 0
RightRecordsAreGood =
    (game : AbstractGame) (description told text : List ℕ) (status : Status)
    → Loads description game
    → IsRightRecord game told
    → length told ≤ most_input
    → IsTaskAnswer (record { command = Replay; description = description; told = told }) text status
    → ((text ≡ good_line) × (status ≡ Success)) ⊎ ((line : ℕ) × IsHeavyLine game told line × (text ≡ over_line line))

-- A task has answers of one status at most, unless one is that a question is above the limits. If a script or a record
-- has a fault, they are one line.
abbrev pub TaskAnswersAreApart : Type 0
TaskAnswersAreApart =
    (task : AbstractTask) (text other : List ℕ) (status ended : Status)
    → IsTaskAnswer task text status
    → IsTaskAnswer task other ended
    → ((status ≡ ended) × (status ≡ BadInput → text ≡ other))
    ⊎ ((line : ℕ) × ((text ≡ over_line line) ⊎ (other ≡ over_line line)))

-- The lines that are printed when a record is written are those that are printed without one.
abbrev pub SameLines : Type 0
SameLines =
    (description text lines told : List ℕ)
    → IsRecorded description text lines told
    → IsScriptsMatch description text lines

-- The only answer about the record, if it is not too long, is that it is good, unless a question is above the limits.
abbrev pub RecordsAreGood : Type 0
RecordsAreGood =
    (description text lines told said : List ℕ) (status : Status)
    → IsRecorded description text lines told
    → length told ≤ most_input
    → IsTaskAnswer (record { command = Replay; description = description; told = told }) said status
    → ((said ≡ good_line) × (status ≡ Success)) ⊎ ((line : ℕ) × (said ≡ over_line line))
