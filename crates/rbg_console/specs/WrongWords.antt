-- The answer to words that name no task.
use Rattle.std.specs.Prelude.{◌≡◌, ℕ, List, Option, string_bytes}
use Rattle.rbg_console.specs.Outputs.{IsWritten}
use Rattle.rbg_console.specs.declared.command_line.WordsError.{WordsError}
use Rattle.rbg_console.specs.declared.command_line.WordsError.TheVariants.{Shown, Wrong, Memory}
use Rattle.rbg_console.specs.declared.status.Status.{Status}
use Rattle.rbg_console.specs.declared.status.Status.TheVariants.{Success, CommandLine, Memory as MemoryStatus}

-- Help and the version are written, or the line that reports that memory ran out. If the words are wrong, nothing is
-- written, and the status is that of a wrong command line.
abbrev pub AnswersWords : WordsError → (no_memory : List ℕ) → (held holds : Option (List ℕ)) → Status → Type 0
AnswersWords (Shown text) no_memory held holds status = IsWritten held holds (string_bytes text) Success status
AnswersWords (Wrong text) no_memory held holds status = (holds ≡ held) × (status ≡ CommandLine)
AnswersWords (Memory error) no_memory held holds status = IsWritten held holds no_memory MemoryStatus status
