-- The answer is written.
use Rattle.rbg_operations.specs.Tasks.{on_file}
use Rattle.rbg_operations.specs.Tasks.FileCommand.{Referee}
use Rattle.rbg_operations.specs.internal.Parts.{IsFilesAnswer}
use Rattle.rbg_operations.proofs.RunLemmas.{task_run}
use Rattle.rbg_referee.proofs.RunCallerLemmas.{run_of}
use Rattle.rbg_operations.proofs.referee.run_match.Goals as goal

pub returns : goal.returns
returns g c =
    let known = g.F.Files.told c.args.files.now in
    let unread = g.R.Read.remaining c.args.input.now in
    let left = g.R.Read.remaining c.answer_files-answered.new.input in
    let named = on_file Referee c.args.file.now in
    task_run known unread left named _ _ c.write_and_tell.result
    (run_of (IsFilesAnswer known unread left named) _ _ c.answer_files-answered.result c.write_and_tell.result c.answer_files-answered.ensures c.write_and_tell.ensures)
