-- The proof of `laws::actions_stay_in_the_game`.
use Rattle.rbg_rules.proofs.StateLemmas.{state_law}
use Rattle.rbg_rules.proofs.laws.actions_stay_in_the_game.Goals as goal

pub returns : goal.returns
returns c = state_law
