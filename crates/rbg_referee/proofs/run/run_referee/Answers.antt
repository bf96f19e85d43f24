-- The answer is written.
use Rattle.rbg_referee.specs.Runs.{IsReadersAnswer}
use Rattle.rbg_referee.proofs.RunCallerLemmas.{run_of}
use Rattle.rbg_referee.proofs.run.run_referee.Goals as goal

pub returns : goal.returns
returns g c =
    run_of (IsReadersAnswer (g.R.Read.remaining c.args.input.now) (g.R.Read.remaining c.answer_reader-answered.new.input)) _ _ c.answer_reader-answered.result c.write_answer.result c.answer_reader-answered.ensures c.write_answer.ensures
