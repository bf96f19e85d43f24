use Rattle.rbg_shifts.proofs.Fillings.{rightly_up_to}
use Rattle.rbg_shifts.proofs.filling.fill_node.Goals as goal

pub returns-then-leads_away-clause-fills : goal.returns-then-leads_away-clause-fills
returns-then-leads_away-clause-fills c = rightly_up_to c.args.ground.now c.args.lists.now c.args.table.now c.fill_once.new.table c.args.node _ c.in_ok-fill_once.ensures

pub returns-then-leads_away-clause-closed : goal.returns-then-leads_away-clause-closed
returns-then-leads_away-clause-closed c = λ one_way v below. c.in_ok-fill_once.ensures.closed (λ p there s e. absurd (c.leads_away.ensures c.if-leads_away.true p there s e)) v below
