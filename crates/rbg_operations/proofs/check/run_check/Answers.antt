-- The answer is written.
use Rattle.rbg_operations.specs.Tasks.{on_file}
use Rattle.rbg_operations.specs.Tasks.FileCommand.{Check}
use Rattle.rbg_operations.proofs.RunLemmas.{files_run}
use Rattle.rbg_operations.proofs.check.run_check.Goals as goal

pub returns : goal.returns
returns g c =
    files_run (g.F.Files.told c.args.files.now) (on_file Check c.args.file.now) _ _
    c.answer_file-answered.result c.write_and_tell.result c.answer_file-answered.ensures c.write_and_tell.ensures
