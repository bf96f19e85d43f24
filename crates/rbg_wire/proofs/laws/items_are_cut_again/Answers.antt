-- Each item is a text without a zero byte, or too long.
use Rattle.rbg_wire.proofs.WholeLemmas.{cut_again}
use Rattle.rbg_wire.proofs.laws.items_are_cut_again.Goals as goal

pub returns : goal.returns
returns c = cut_again
