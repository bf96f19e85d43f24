-- A run of the program: from the bytes of its files and of standard input to those that its output and new files hold,
-- and the status.
use Rattle.std.specs.Prelude.{ℕ, List, Option}
use Rattle.rbg_console.specs.Files.{KnownFiles}
use Rattle.rbg_console.specs.declared.status.Status.{Status}
use Rattle.rbg_operations.specs.Runs.{IsTaskRun}
use Rattle.rbg_hosting.specs.Runs.{IsCutRun, IsScriptRun}
use Rattle.rbg_operations.specs.ListingRuns.{IsMovesRun}
use Rattle.rbg_operations.specs.RecordRuns.{IsRecordedRun}
use Rattle.rbg_referee.specs.Runs.{IsRun}
use Rattle.rbg_cli.specs.Words.{Wish, match_of_input, on_files, recorded_match, cut_match, moves_of, script_of}

-- A run that does what is asked for. The files are known before and after it, new ones if they tell what is written to
-- them; standard input had some bytes unread and has the others left; the output held some bytes and holds more now.
abbrev pub IsRunFor : Wish → (tells : Type 0) → (known after : KnownFiles) → (unread left held holds : Option (List ℕ)) → Status → Type 0
IsRunFor match_of_input tells known after unread left held holds status = IsRun unread left held holds status
IsRunFor (on_files task) tells known after unread left held holds status =
    IsTaskRun known unread left task held holds status
IsRunFor (recorded_match task) tells known after unread left held holds status =
    IsRecordedRun tells known after unread left task held holds status
IsRunFor (cut_match file) tells known after unread left held holds status =
    IsCutRun known unread left file held holds status
IsRunFor (moves_of file) tells known after unread left held holds status = IsMovesRun (known file) held holds status
IsRunFor (script_of file) tells known after unread left held holds status = IsScriptRun (known file) held holds status
