use Rattle.rbg_match.specs.internal.Inboxes.{AreNew}
use Rattle.rbg_match.proofs.opening.new_inboxes.Given as goal

abbrev pub invariant-loop : goal.invariant-loop
invariant-loop l = AreNew l.counter l.inboxes.items
