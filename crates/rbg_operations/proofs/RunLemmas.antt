-- Lemmas on runs.
use Rattle.std.proofs.Common.{ℕ, List, [], refl, subst, arith, Global, Option, Vec, Result, Ok, Err, IfOk}
use Rattle.rbg_console.specs.Files.{KnownFiles}
use Rattle.rbg_console.specs.Outputs.{IsWritten}
use Rattle.rbg_console.specs.declared.status.Status.{Status}
use Rattle.rbg_referee.specs.Runs.{IsRunOf, WritesAnswer, device_line}
use Rattle.rbg_referee.specs.Runs.IsRunOf.{answered as is_answered, no_memory as has_no_memory}
use Rattle.rbg_referee.specs.declared.answer.Answer.{Answer}
use Rattle.rbg_macro.specs.TextLimits.{longest_text}
use Rattle.rbg_operations.specs.Runs.{IsTaskRun}
use Rattle.rbg_operations.specs.Runs.IsTaskRun.{answered, unreadable, no_memory}
use Rattle.rbg_operations.specs.Tasks.{NamedTask, on_file}
use Rattle.rbg_operations.specs.Tasks.FileCommand.{Check, Referee}
use Rattle.rbg_operations.specs.internal.Parts.{task_of, AnswersTexts, AnswersWhole, IsReadIn, IsReadInput, IsFilesAnswer}
use Rattle.rbg_operations.specs.internal.Parts.IsFilesAnswer.{of_task, unreadable as not_read}

-- a run writes the answer
written_answer : (known : KnownFiles) (unread left : Option (List ℕ)) (named : NamedTask) (held holds : Option (List ℕ)) (text : List ℕ) (wanted status : Status) → IsFilesAnswer known unread left named text wanted → IsWritten held holds text wanted status → IsTaskRun known unread left named held holds status
written_answer known unread left named held holds text wanted status (of_task task asks answer) written = answered task text wanted asks answer written
written_answer known unread left named held holds text wanted status (not_read is was) written =
    unreadable (subst (λ w. IsWritten held holds device_line w status) was (subst (λ t. IsWritten held holds t wanted status) is written))

pub task_run : (known : KnownFiles) (unread left : Option (List ℕ)) (named : NamedTask) (held holds : Option (List ℕ)) (status : Status) → IsRunOf (IsFilesAnswer known unread left named) held holds status → IsTaskRun known unread left named held holds status
task_run known unread left named held holds status (is_answered text wanted is written) = written_answer known unread left named held holds text wanted status is written
task_run known unread left named held holds status (has_no_memory written) = no_memory written

-- the same of a command that leaves standard input alone
pub files_run : {E : Type 0} (known : KnownFiles) (named : NamedTask) (held holds : Option (List ℕ)) (result : Result Answer E) (status : Status) → IfOk result (λ answer. (unread : Option (List ℕ)) → IsFilesAnswer known unread unread named answer.text.items answer.status) → WritesAnswer result held holds status → (unread : Option (List ℕ)) → IsTaskRun known unread unread named held holds status
files_run known named held holds (Ok answer) status is written unread =
    written_answer known unread unread named held holds answer.text.items answer.status status (is unread) written
files_run known named held holds (Err error) status is written unread = no_memory written

-- what was read of a description is answered
pub check_answer : (known : KnownFiles) (file : List ℕ) (description : Option (Vec ℕ Global)) (text : List ℕ) (status : Status) → IsReadIn longest_text (known file) description → AnswersWhole Check description [] text status → (unread : Option (List ℕ)) → IsFilesAnswer known unread unread (on_file Check file) text status
check_answer known file description text status d answers unread =
    of_task (task_of Check d.bytes []) (record { command = refl; description = d.may; told = (refl, refl) })
    (answers d.bytes d.reads (omega arith))

-- what was read of a description and a script is answered
pub script_answer : (known : KnownFiles) (unread left : Option (List ℕ)) (file : List ℕ) (description told : Option (Vec ℕ Global)) (text : List ℕ) (status : Status) → IsReadIn longest_text (known file) description → IsReadInput unread left told → AnswersTexts Referee description told text status → IsFilesAnswer known unread left (on_file Referee file) text status
script_answer known unread left file description told text status d t answers =
    of_task (task_of Referee d.bytes t.bytes) (record { command = refl; description = d.may; told = t.input })
    (answers d.bytes t.bytes d.reads t.reads)
