-- What the loop keeps: the steps of the nodes so far.
use Rattle.std.proofs.Common.{◌≡◌, map, take}
use Rattle.rbg_auto.specs.internal.Prepared.{step_of_node}
use Rattle.rbg_auto.proofs.prepare.prepare.Given as goal

abbrev pub invariant-loop-node : goal.invariant-loop-node
invariant-loop-node l = l.steps.items ≡ map step_of_node (take l.node-index l.table.nodes.items)
