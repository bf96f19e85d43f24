use Rattle.rbg_serving.proofs.Replaying.{written_is_enough}
use Rattle.rbg_serving.proofs.laws.written_is_enough.Goals as goal

pub returns : goal.returns
returns c = written_is_enough
