-- The records that are made of the nodes of a table.
use Rattle.std.specs.Prelude.{◌-◌, if◌then◌else◌}
use Rattle.rbg_auto.specs.declared.lent_steps.Step.{Step}
use Rattle.rbg_auto.specs.declared.span.Node.{Node}
use Rattle.rbg_auto.specs.declared.steps.Glance.TheVariants.{Unknown}

-- Where the list of the node starts and how long it is, and the glance of its action: `Unknown` if words may end.
abbrev pub step_of_node : Node → Step
step_of_node node = record {
  start = node.next.start;
  len = node.next.end - node.next.start;
  glance = if node.may_end then Unknown else node.glance;
}
