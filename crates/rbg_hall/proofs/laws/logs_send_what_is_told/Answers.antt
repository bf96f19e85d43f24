use Rattle.rbg_hall.proofs.Sending.{logs_send_what_is_told}
use Rattle.rbg_hall.proofs.laws.logs_send_what_is_told.Goals as goal

pub returns : goal.returns
returns g c = logs_send_what_is_told g.W.Log.told
