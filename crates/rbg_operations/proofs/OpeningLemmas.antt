-- Lemmas on a game and a record that are read and loaded.
use Rattle.std.proofs.Common.{◌≢◌, ℕ, ◌≤◌, List, length, refl, sym, subst, Global, Option, Vec}
use Rattle.rbg_console.specs.Files.{KnownFiles, MayBe}
use Rattle.rbg_console.specs.Inputs.{most_input}
use Rattle.rbg_console.specs.declared.status.Status.{Status}
use Rattle.rbg_rules.specs.Meaning.{AbstractGame}
use Rattle.rbg_macro.specs.TextLimits.{longest_text}
use Rattle.rbg_operations.specs.Answers.{IsGamesAnswer}
use Rattle.rbg_operations.specs.Answers.IsTaskAnswer.{of_game}
use Rattle.rbg_operations.specs.Tasks.{FileCommand, IsReadOf, IsSecondTextIn, on_record}
use Rattle.rbg_operations.specs.Tasks.FileCommand.{Check, Referee, Replay, Migrate, Moves}
use Rattle.rbg_operations.specs.declared.on_record.RecordCommand.{RecordCommand}
use Rattle.rbg_operations.specs.declared.on_record.RecordCommand.TheVariants as commands
use Rattle.rbg_operations.specs.declared.opening.Opened.{Opened}
use Rattle.rbg_operations.specs.declared.opening.Opened.TheVariants.{Both, Answered}
use Rattle.rbg_operations.specs.internal.Parts.{task_of, IsOnRecord, IsReadIn, IsFilesAnswer, AreOpened, OpensFiles, OpensNone, OpensTexts}
use Rattle.rbg_operations.specs.internal.Parts.IsFilesAnswer.{of_task, unreadable}
use Rattle.rbg_operations.specs.internal.RecordCommands.{command_of}

-- the source of the second text of a command on a record
told_in : (known : KnownFiles) (unread : Option (List ℕ)) (other told : List ℕ) → MayBe (known other) told → (command : FileCommand) → IsOnRecord command → IsSecondTextIn known unread unread other command told
told_in known unread other told may Check on = absurd on
told_in known unread other told may Referee on = absurd on
told_in known unread other told may Replay on = (may, refl)
told_in known unread other told may Migrate on = (may, refl)
told_in known unread other told may Moves on = (may, refl)

-- such a command isn't `referee`
no_referee : (command : FileCommand) → IsOnRecord command → command ≢ Referee
no_referee command on same = subst IsOnRecord same on

-- each command on a record is one
pub is_on_record : (command : RecordCommand) → IsOnRecord (command_of command)
is_on_record commands.Replay = tt
is_on_record commands.Migrate = tt
is_on_record commands.Moves = tt

-- what is answered about a game and a record is the answer to the command
pub opened_answer : (known : KnownFiles) (file other : List ℕ) (game : AbstractGame) (told : List ℕ) (command : FileCommand) (text : List ℕ) (status : Status) → IsOnRecord command → AreOpened known file other game told → ((description : List ℕ) → IsGamesAnswer game description told command text status) → (unread : Option (List ℕ)) → IsFilesAnswer known unread unread (on_record command file other) text status
opened_answer known file other game told command text status on is says unread =
    of_task (task_of command is.description told)
    (record { command = refl; description = is.is_file; told = told_in known unread other told is.is_record command on })
    (of_game game text status is.loads is.fits (says is.description))

-- what was read of both files is opened
pub files_opened : (known : KnownFiles) (file other : List ℕ) (description told : Option (Vec ℕ Global)) (opened : Opened) → IsReadIn longest_text (known file) description → IsReadIn most_input (known other) told → OpensTexts description told opened → OpensFiles known file other opened
files_opened known file other description told (Both game bytes) d t is =
    let reads = subst (λ r. IsReadOf most_input r t.bytes) is.1 t.reads in
    record {
      description = d.bytes;
      is_file = d.may;
      loads = is.0 d.bytes d.reads;
      is_record = subst (λ b. MayBe (known other) b) (sym reads.1) t.may;
      fits = subst (λ b. length b ≤ most_input) (sym reads.1) reads.0;
    }
files_opened known file other description told (Answered answer) d t is = λ command on unread.
    of_task (task_of command d.bytes t.bytes)
    (record { command = refl; description = d.may; told = told_in known unread other t.bytes t.may command on })
    (is command (no_referee command on) d.bytes t.bytes d.reads t.reads)

-- a file that can't be read is reported
pub none_opened : (known : KnownFiles) (file other : List ℕ) (opened : Opened) → OpensNone opened → OpensFiles known file other opened
none_opened known file other (Both game told) is = absurd is
none_opened known file other (Answered answer) is = λ command on unread. unreadable is.0 is.1
