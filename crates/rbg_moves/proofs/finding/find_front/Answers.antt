use Rattle.rbg_moves.proofs.Outcome.{front_walked}
use Rattle.rbg_moves.proofs.finding.find_front.Goals as goal

pub returns-clause-finds : goal.returns-clause-finds
returns-clause-finds x c = front_walked c.walk_from.result c.walk_from.ensures.walks
