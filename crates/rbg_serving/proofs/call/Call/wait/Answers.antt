use Rattle.rbg_serving.proofs.InCallLemmas.{waited}
use Rattle.rbg_serving.proofs.call.Call.wait.Goals as goal

pub returns-clause-waits : goal.returns-clause-waits
returns-clause-waits g c = λ start rounds call. waited c.wait.ensures call
