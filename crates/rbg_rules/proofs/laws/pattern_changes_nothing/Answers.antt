-- The proof of `laws::pattern_changes_nothing`.
use Rattle.rbg_rules.proofs.MoveLemmas.{pattern_law}
use Rattle.rbg_rules.proofs.laws.pattern_changes_nothing.Goals as goal

pub returns : goal.returns
returns c = pattern_law
