-- Tasks with the bytes that they are about.
use Rattle.std.specs.Global.{Global}
use Rattle.std.specs.Prelude.{◌≡◌, ℕ, ◌<◌, ◌≤◌, List, [], length, Option, Some, None, Vec}
use Rattle.rbg_console.specs.Files.{KnownFiles, MayBe}
use Rattle.rbg_console.specs.Inputs.{most_input, IsAll, IsAbove}

-- A command on files.
--   Check: to print how many of each thing the game has.
--   Referee: to referee the match of the script on standard input.
--   Replay: to check whether a record is right.
--   Migrate: to print a record of version 1 as one of version 2.
--   Moves: to print the moves with which play can continue after a record.
pub data FileCommand : Type 0 where
  Check : FileCommand
  Referee : FileCommand
  Replay : FileCommand
  Migrate : FileCommand
  Moves : FileCommand

-- A command with the names of the files of its description and its record, the latter empty if it asks for none.
pub record NamedTask : Type 0 where
  pub command : FileCommand
  pub file : List ℕ
  pub record_file : List ℕ

abbrev pub on_file : FileCommand → (file : List ℕ) → NamedTask
on_file command file = record { command = command; file = file; record_file = [] }

abbrev pub on_record : FileCommand → (file other : List ℕ) → NamedTask
on_record command file other = record { command = command; file = file; record_file = other }

-- A match to be refereed: the file of the description, if one is named, and the file that is created for the record.
pub record RecordedTask : Type 0 where
  pub file : Option (List ℕ)
  pub record_file : List ℕ

abbrev pub recorded_task : (file : Option (List ℕ)) → (other : List ℕ) → RecordedTask
recorded_task file other = record { file = file; record_file = other }

-- A command with its description and a second text about a match of it: a script or a record, and nothing for `check`.
pub record AbstractTask : Type 0 where
  pub command : FileCommand
  pub description : List ℕ
  pub told : List ℕ

-- Standard input had these bytes. Either all were read, or more than an input may have.
pub data IsInputOf (unread left : Option (List ℕ)) (bytes : List ℕ) : Type 0 where
  whole : IsAll most_input unread left bytes → IsInputOf unread left bytes
  too_long : IsAbove most_input unread left → most_input < length bytes → MayBe unread bytes → IsInputOf unread left bytes

-- The source of the second text. Only `referee` reads standard input.
abbrev pub IsSecondTextIn : KnownFiles → (unread left : Option (List ℕ)) → (record_file : List ℕ) → FileCommand → (told : List ℕ) → Type 0
IsSecondTextIn known unread left record_file Check told = (told ≡ []) × (left ≡ unread)
IsSecondTextIn known unread left record_file Referee told = IsInputOf unread left told
IsSecondTextIn known unread left record_file Replay told = MayBe (known record_file) told × (left ≡ unread)
IsSecondTextIn known unread left record_file Migrate told = MayBe (known record_file) told × (left ≡ unread)
IsSecondTextIn known unread left record_file Moves told = MayBe (known record_file) told × (left ≡ unread)

-- The command's files, and standard input if it is asked for, have the bytes of the task.
pub record AsksFor (known : KnownFiles) (unread left : Option (List ℕ)) (named : NamedTask) (task : AbstractTask) : Type 0 where
  pub command : task.command ≡ named.command
  pub description : MayBe (known named.file) task.description
  pub told : IsSecondTextIn known unread left named.record_file named.command task.told

-- What was read within a limit of some bytes: all of them, or that they are more.
abbrev pub IsReadOf : (limit : ℕ) → Option (Vec ℕ Global) → (bytes : List ℕ) → Type 0
IsReadOf limit (Some read) bytes = (length bytes ≤ limit) × (read.items ≡ bytes)
IsReadOf limit None bytes = limit < length bytes
