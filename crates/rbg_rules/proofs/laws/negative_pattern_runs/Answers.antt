-- The proof of `laws::negative_pattern_runs`.
use Rattle.rbg_rules.proofs.MoveLemmas.{negative_law}
use Rattle.rbg_rules.proofs.laws.negative_pattern_runs.Goals as goal

pub returns : goal.returns
returns c = negative_law
