-- The answer is written.
use Rattle.rbg_operations.specs.Tasks.{on_record}
use Rattle.rbg_operations.specs.internal.RecordCommands.{command_of}
use Rattle.rbg_operations.proofs.RunLemmas.{files_run}
use Rattle.rbg_operations.proofs.on_record.run_on_record.Goals as goal

pub returns : goal.returns
returns g c =
    files_run (g.F.Files.told c.args.files.now) (on_record (command_of c.args.task.command) c.args.task.file.now c.args.task.record_file.now) _ _
    c.answer_files-answered.result c.write_and_tell.result c.answer_files-answered.ensures c.write_and_tell.ensures
