-- The proof of `laws::run_is_a_function`.
use Rattle.rbg_rules.proofs.MoveLemmas.{one_run_law}
use Rattle.rbg_rules.proofs.laws.run_is_a_function.Goals as goal

pub returns : goal.returns
returns c = one_run_law
