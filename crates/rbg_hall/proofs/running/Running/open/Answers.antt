use Rattle.rbg_hall.proofs.Emptying.{opened_running}
use Rattle.rbg_hall.proofs.running.Running.open.Goals as goal

pub invariant_of-result : goal.invariant_of-result
invariant_of-result c = opened_running c.args.game c.args.opening.text.now c.args.opening.config c.args.opening.now c.in-Ok.playing c.in-Ok.outbox c.cut_back.new.self c.in-Ok.ensures.opens c.in-Ok.ensures.history c.cut_back.ensures
