use Rattle.rbg_base.proofs.Lists.{lists_none}
use Rattle.rbg_base.proofs.list.MoveList.new.Goals as goal

pub returns : goal.returns
returns c = lists_none c.new.result.items c.new-2.result.items c.new-2.ensures.items
