use Rattle.rbg_base.proofs.Lists.{lists_none}
use Rattle.rbg_base.proofs.list.MoveList.clear.Goals as goal

pub returns : goal.returns
returns c = lists_none c.clear-2.new.self.items c.clear.new.self.items c.clear.ensures.items
