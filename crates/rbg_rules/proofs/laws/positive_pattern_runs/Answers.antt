-- The proof of `laws::positive_pattern_runs`.
use Rattle.rbg_rules.proofs.MoveLemmas.{positive_law}
use Rattle.rbg_rules.proofs.laws.positive_pattern_runs.Goals as goal

pub returns : goal.returns
returns c = positive_law
