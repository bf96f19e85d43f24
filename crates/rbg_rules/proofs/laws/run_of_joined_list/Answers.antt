-- The proof of `laws::run_of_joined_list`.
use Rattle.rbg_rules.proofs.MoveLemmas.{run_law}
use Rattle.rbg_rules.proofs.laws.run_of_joined_list.Goals as goal

pub returns : goal.returns
returns c = run_law
