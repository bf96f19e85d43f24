use Rattle.rbg_state.proofs.Pasts.{past_of_none}
use Rattle.rbg_state.proofs.state.SemiState.copy_from.Goals as goal

pub returns-clause-past : goal.returns-clause-past
returns-clause-past c = past_of_none c.clear.new.self.items c.copy_from.new.self c.clear.ensures.items
