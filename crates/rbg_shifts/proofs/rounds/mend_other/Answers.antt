use Rattle.std.proofs.Common.{◌∙◌}
use Rattle.rbg_shifts.proofs.Cases.{not_both}
use Rattle.rbg_shifts.proofs.Fillings.{filled_on}
use Rattle.rbg_shifts.proofs.rounds.mend_other.Goals as goal

pub returns : goal.returns
returns c = filled_on c.args.ground.now c.args.lists.now c.args.table.now c.mend.new.table c.args.filled.now c.args.node (λ marked. not_both (c.is_marked.ensures ∙ marked) c.if-is_marked.false) c.in_ok-missing.ensures.fills c.requires.so_far.filled
