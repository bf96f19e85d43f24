use Rattle.rbg_hall.proofs.Same.{lines_have_the_same_bytes}
use Rattle.rbg_hall.proofs.laws.lines_have_the_same_bytes.Goals as goal

pub returns : goal.returns
returns c = lines_have_the_same_bytes
