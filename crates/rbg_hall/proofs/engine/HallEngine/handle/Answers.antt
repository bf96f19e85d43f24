use Rattle.std.proofs.lemmas.Result.{on_ok_weaker}
use Rattle.rbg_hall.proofs.Served.{stepped_so, failed_so, works_so, as_many_so, hearing_extends}
use Rattle.rbg_hall.proofs.engine.HallEngine.handle.Goals as goal

pub returns-clause-ok : goal.returns-clause-ok
returns-clause-ok g c = stepped_so g.W.Log.told c.args.self.now c.step.new.self _ _ c.step.result _ _ c.hall_event.ensures c.step.ensures.failing c.step.ensures.writes

pub returns-clause-err : goal.returns-clause-err
returns-clause-err g c = failed_so g.W.Log.told c.args.self.now c.step.new.self _ _ c.step.result c.step.ensures.failing c.step.ensures.kept c.step.ensures.stops

pub returns-clause-extends : goal.returns-clause-extends
returns-clause-extends g c = on_ok_weaker c.step.result hearing_extends c.step.ensures.hears

pub returns-clause-valid : goal.returns-clause-valid
returns-clause-valid g c = works_so _ _ c.step.result c.step.ensures.failing

pub returns-clause-as_many : goal.returns-clause-as_many
returns-clause-as_many g c = as_many_so _ _ _ _ _ c.step.result c.step.ensures.hears c.step.ensures.kept
