use Rattle.rbg_game.proofs.OneNumbering.{numbered_rule_once}
use Rattle.rbg_game.proofs.numbering_laws.rules_are_numbered_one_way.Goals as goal

pub returns : goal.returns
returns c = λ names rule x y differ is_x is_y. numbered_rule_once names differ rule x y is_x.is_rule is_y.is_rule is_x.numbered is_y.numbered
