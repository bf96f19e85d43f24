-- The cut takes one byte after another.
use Rattle.rbg_wire.proofs.CutLemmas.{cut-append}
use Rattle.rbg_wire.proofs.laws.cuts_as_its_pieces.Goals as goal

pub returns : goal.returns
returns c = cut-append
