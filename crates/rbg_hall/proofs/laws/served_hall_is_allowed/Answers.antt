use Rattle.rbg_hall.proofs.Served.{served_hall_is_allowed}
use Rattle.rbg_hall.proofs.laws.served_hall_is_allowed.Goals as goal

pub returns : goal.returns
returns g c = served_hall_is_allowed g.W.Log.told
