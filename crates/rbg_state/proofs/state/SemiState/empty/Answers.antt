use Rattle.rbg_state.proofs.Pasts.{past_of_none}
use Rattle.rbg_state.proofs.state.SemiState.empty.Goals as goal

pub returns : goal.returns
returns c = past_of_none c.new.result.items c.empty.result c.new.ensures.items
