-- The match handles what was written.
use Rattle.std.proofs.lemmas.Result.{on_err_weaker, on_ok_weaker}
use Rattle.rbg_script.specs.Events.{event_of}
use Rattle.rbg_serving.proofs.LinesLemmas.{step_extends}
use Rattle.rbg_serving.proofs.Logging.{handled_so, unhandled_so}
use Rattle.rbg_serving.proofs.log_engine.LoggedMatchEngine.handle.Goals as goal

pub returns-clause-ok : goal.returns-clause-ok
returns-clause-ok g c =
    handled_so g.W.Log.told c.args.self.now _ _ (event_of c.args.event) c.args.outbox.now c.step.new.outbox c.step.result c.in_ok-write.ensures.played c.in_ok-write.ensures.timely c.in_ok-write.ensures.until c.in_ok-write.ensures.ok c.step.ensures.ok

pub returns-clause-err : goal.returns-clause-err
returns-clause-err g c =
    unhandled_so g.W.Log.told c.args.self.now _ (event_of c.args.event) c.args.outbox.now c.step.new.outbox c.step.result c.in_ok-write.ensures.ok c.in_ok-write.ensures.until c.in_ok-write.ensures.going (on_err_weaker c.step.result (λ kept. kept.0) c.step.ensures.err)

pub returns-clause-extends : goal.returns-clause-extends
returns-clause-extends g c = on_ok_weaker c.step.result step_extends c.step.ensures.ok
