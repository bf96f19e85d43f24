-- The proof of `laws::action_belongs_to_some_level`.
use Rattle.rbg_rules.proofs.LevelLemmas.{some_level_law}
use Rattle.rbg_rules.proofs.laws.action_belongs_to_some_level.Goals as goal

pub returns : goal.returns
returns c = some_level_law
