use Rattle.rbg_record.proofs.MatchRight.{matches_right}
use Rattle.rbg_record.proofs.laws.matches_are_right.Goals as goal

pub returns : goal.returns
returns c = matches_right
