use Rattle.rbg_match.proofs.Questions.{where_above}
use Rattle.rbg_match.proofs.asking.try_move.Goals as goal

pub returns-clause-heavy : goal.returns-clause-heavy
returns-clause-heavy c = where_above c.try_move.result _ _ c.try_move.ensures.tries.given_up.heavy
