-- The answer is written.
use Rattle.rbg_operations.specs.RecordRuns.{IsRecordedAnswer}
use Rattle.std.proofs.Common.{option_map}
use Rattle.rbg_operations.specs.Tasks.{recorded_task}
use Rattle.rbg_referee.proofs.RunCallerLemmas.{run_of}
use Rattle.rbg_operations.proofs.record_run.run_recorded.Goals as goal

pub returns : goal.returns
returns g c =
    let known = g.F.Files.told c.args.files.now in
    let after = g.F.Files.told c.answer_recorded-answered.new.files in
    let unread = g.R.Read.remaining c.args.input.now in
    let left = g.R.Read.remaining c.answer_recorded-answered.new.input in
    run_of (IsRecordedAnswer g.F.Files.knows_new known after unread left (recorded_task (option_map (λ name. name.now) c.args.named.file) c.args.named.target.now)) _ _ c.answer_recorded-answered.result c.write_answer.result c.answer_recorded-answered.ensures c.write_answer.ensures
