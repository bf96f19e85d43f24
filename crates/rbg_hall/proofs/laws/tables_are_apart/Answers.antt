use Rattle.rbg_hall.proofs.Same.{tables_are_apart}
use Rattle.rbg_hall.proofs.laws.tables_are_apart.Goals as goal

pub returns : goal.returns
returns c = tables_are_apart
