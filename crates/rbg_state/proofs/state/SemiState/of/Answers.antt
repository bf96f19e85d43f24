use Rattle.rbg_state.proofs.Pasts.{past_of_none}
use Rattle.rbg_state.proofs.state.SemiState.of.Goals as goal

pub returns-clause-past : goal.returns-clause-past
returns-clause-past c = past_of_none c.new.result.items c.in_ok-of.field-0 c.new.ensures.items
