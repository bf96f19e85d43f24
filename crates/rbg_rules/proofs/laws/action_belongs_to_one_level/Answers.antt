-- The proof of `laws::action_belongs_to_one_level`.
use Rattle.rbg_rules.proofs.LevelLemmas.{one_level_law}
use Rattle.rbg_rules.proofs.laws.action_belongs_to_one_level.Goals as goal

pub returns : goal.returns
returns c = one_level_law
