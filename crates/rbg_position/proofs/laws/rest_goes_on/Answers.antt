use Rattle.rbg_position.proofs.GoesOn.{rest_goes_on_law}
use Rattle.rbg_position.proofs.laws.rest_goes_on.Goals as goal

pub returns : goal.returns
returns c = rest_goes_on_law
