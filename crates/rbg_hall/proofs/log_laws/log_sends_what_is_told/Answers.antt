use Rattle.rbg_hall.proofs.LogSending.{log_sends_what_is_told}
use Rattle.rbg_hall.proofs.log_laws.log_sends_what_is_told.Goals as goal

pub returns : goal.returns
returns g c = log_sends_what_is_told g.W.Log.told
