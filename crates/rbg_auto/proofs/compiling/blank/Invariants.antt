-- What the loop keeps: nothing is laid at the nodes so far.
use Rattle.rbg_auto.specs.internal.PlainNodes.{AreBlank}
use Rattle.rbg_auto.proofs.compiling.blank.Given as goal

abbrev pub invariant-loop : goal.invariant-loop
invariant-loop l = AreBlank l.nodes.items l.counter
