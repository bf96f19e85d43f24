use Rattle.rbg_state.proofs.Pasts.{past_of_none}
use Rattle.rbg_state.proofs.state.SemiState.start.Goals as goal

pub returns-clause-past : goal.returns-clause-past
returns-clause-past c = past_of_none c.new.result.items c.in_ok-start.field-0 c.new.ensures.items
