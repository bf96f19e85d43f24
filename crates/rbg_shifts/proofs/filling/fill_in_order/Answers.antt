use Rattle.rbg_base.proofs.Common.{◌≡◌, ◌∙◌, false, length, sym, ap, subst, rules, replicate, length-replicate}
use Rattle.rbg_shifts.specs.internal.Tables.{AreFilled}
use Rattle.rbg_shifts.proofs.Fillings.{none_marked}
use Rattle.rbg_shifts.proofs.filling.fill_in_order.Goals as goal

pub loop-init : goal.loop-init
loop-init c =
    let is : c.in_ok-filled.filled.items ≡ replicate c.len-nodes.result false = search rules in
    record {
      size = ap length is ∙ length-replicate c.len-nodes.result false ∙ c.len-nodes.ensures ∙ c.args.lists.now.interner.nodes.ok.0;
      filled = subst (AreFilled c.args.ground.now c.args.lists.now c.args.table.now) (sym is) (none_marked c.args.ground.now c.args.lists.now c.args.table.now c.len-nodes.result c.requires.right.sound);
    }
