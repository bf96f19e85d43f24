use Rattle.std.proofs.Common.{◌∙◌}
use Rattle.rbg_shifts.proofs.Cases.{not_both}
use Rattle.rbg_shifts.proofs.Fillings.{one_marked}
use Rattle.rbg_shifts.proofs.filling.fill_next.Goals as goal

pub returns-clause-filled : goal.returns-clause-filled
returns-clause-filled c = one_marked c.args.ground.now c.args.lists.now c.args.table.now c.fill_node.new.table c.args.filled.now c.args.node c.requires.there
    (λ marked. not_both (c.is_marked.ensures ∙ marked) c.if-is_marked.false) (c.is_ready.ensures c.if-not-is_ready.false)
    c.in_ok-fill_node.ensures.fills c.in_ok-fill_node.ensures.closed c.requires.so_far.filled
