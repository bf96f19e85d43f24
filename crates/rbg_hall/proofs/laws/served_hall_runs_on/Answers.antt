use Rattle.rbg_hall.proofs.Sending.{served_hall_runs_on}
use Rattle.rbg_hall.proofs.laws.served_hall_runs_on.Goals as goal

pub returns : goal.returns
returns g c = served_hall_runs_on g.W.Log.told
