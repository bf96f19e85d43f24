use Rattle.rbg_hall.proofs.Permitted.{run_is_allowed}
use Rattle.rbg_hall.proofs.laws.run_is_allowed.Goals as goal

pub returns : goal.returns
returns c = run_is_allowed
