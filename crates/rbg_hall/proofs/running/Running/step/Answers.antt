use Rattle.rbg_hall.proofs.Between.{stepped_running}
use Rattle.rbg_hall.proofs.running.Running.step.Goals as goal

pub invariant_of-self-2 : goal.invariant_of-self-2
invariant_of-self-2 c = stepped_running c.args.arrival c.self.inside.outbox c.receive.new.outbox c.cut_back.new.self c.requires.whole c.self.invariant c.in_ok-receive.ensures.ok c.in_ok-receive.ensures.history c.cut_back.ensures
