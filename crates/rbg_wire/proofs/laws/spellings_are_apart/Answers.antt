-- The text before the first zero byte is that of the message.
use Rattle.rbg_wire.proofs.LawLemmas.{apart}
use Rattle.rbg_wire.proofs.laws.spellings_are_apart.Goals as goal

pub returns : goal.returns
returns c = apart
