-- Each text is that of its message.
use Rattle.rbg_wire.proofs.LawLemmas.{spelled_items}
use Rattle.rbg_wire.proofs.laws.spellings_are_items.Goals as goal

pub returns : goal.returns
returns c = spelled_items
