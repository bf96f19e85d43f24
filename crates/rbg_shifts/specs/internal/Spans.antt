-- Where the list of a node is.
use Rattle.std.specs.Prelude.{ℕ, ◌≤◌, false}
use Rattle.rbg_shifts.specs.declared.interner.Node.{Node}

-- The node is of an array of that many positions.
pub record IsNodeWithin (size : ℕ) (n : Node) : Type 0 where
  pub starts : n.start ≤ n.end
  pub ends : n.end ≤ size

abbrev pub no_node : Node
no_node = record { start = 0; end = 0; may_end = false }
