-- Each text is one item.
use Rattle.rbg_wire.proofs.LawLemmas.{texts}
use Rattle.rbg_wire.proofs.laws.items_are_texts.Goals as goal

pub returns : goal.returns
returns c = texts
