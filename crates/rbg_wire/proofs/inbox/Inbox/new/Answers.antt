-- Without bytes there is nothing.
use Rattle.std.proofs.Common.{refl}
use Rattle.rbg_wire.proofs.CutLemmas.{cut-none}
use Rattle.rbg_wire.proofs.inbox.Inbox.new.Goals as goal

pub returns : goal.returns
returns c = rw (c.new.ensures.items, cut-none) refl
