-- One byte too many, and then nothing.
use Rattle.rbg_wire.proofs.LawLemmas.{too_long_once}
use Rattle.rbg_wire.proofs.laws.too_long_comes_once.Goals as goal

pub returns : goal.returns
returns c = too_long_once
