-- A run of a task: from the bytes of its files and of standard input to those that its output holds, and the status.
use Rattle.std.specs.Prelude.{ℕ, List, Option}
use Rattle.rbg_console.specs.Files.{KnownFiles}
use Rattle.rbg_console.specs.Outputs.{IsWritten}
use Rattle.rbg_console.specs.declared.status.Status.{Status}
use Rattle.rbg_console.specs.declared.status.Status.TheVariants.{Device, Memory}
use Rattle.rbg_referee.specs.Runs.{device_line, memory_line}
use Rattle.rbg_operations.specs.Answers.{IsTaskAnswer}
use Rattle.rbg_operations.specs.Tasks.{NamedTask}
use Rattle.rbg_operations.specs.Tasks.{AbstractTask, AsksFor}

-- The files are known as far as their bytes are known; standard input had some bytes unread and has the others left;
-- the output held some bytes and holds more now. One of these is written, and nothing else:
--   answered: the answer to the task whose bytes the files and standard input have.
--   unreadable: the line `device`, since a file or standard input can't be read.
--   no_memory: the line `memory`.
pub data IsTaskRun (known : KnownFiles) (unread left : Option (List ℕ)) (named : NamedTask) (held holds : Option (List ℕ)) (status : Status) : Type 0 where
  answered : (task : AbstractTask) (text : List ℕ) (wanted : Status)
      → AsksFor known unread left named task
      → IsTaskAnswer task text wanted
      → IsWritten held holds text wanted status
      → IsTaskRun known unread left named held holds status
  unreadable : IsWritten held holds device_line Device status → IsTaskRun known unread left named held holds status
  no_memory : IsWritten held holds memory_line Memory status → IsTaskRun known unread left named held holds status
