use Rattle.std.proofs.lemmas.Result.{on_ok_weaker}
use Rattle.rbg_serving.proofs.LinesLemmas.{step_extends}
use Rattle.rbg_serving.proofs.engine.MatchEngine.handle.Goals as goal

pub returns-clause-extends : goal.returns-clause-extends
returns-clause-extends c = on_ok_weaker c.step.result step_extends c.step.ensures.ok
