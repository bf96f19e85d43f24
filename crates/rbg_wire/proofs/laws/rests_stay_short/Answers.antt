-- Each byte leaves a rest.
use Rattle.rbg_wire.proofs.LawLemmas.{rests}
use Rattle.rbg_wire.proofs.laws.rests_stay_short.Goals as goal

pub returns : goal.returns
returns c = rests
