-- The answer is written.
use Rattle.rbg_operations.specs.ListingRuns.{IsFilesMoves}
use Rattle.rbg_referee.proofs.RunCallerLemmas.{run_of}
use Rattle.rbg_operations.proofs.run.run_moves.Goals as goal

pub returns : goal.returns
returns g c =
    run_of (IsFilesMoves (g.F.Files.told c.args.files.now c.args.file.now)) _ _ c.answer_file-answered.result c.write_and_tell.result c.answer_file-answered.ensures c.write_and_tell.ensures
