-- The steps that lists by position have, and what laying a tree of the program makes of them.
use Rattle.std.specs.Prelude.{◌≡◌, ℕ, ◌<◌, List, length, Bool, Option, Some, None, slice_get}
use Rattle.rbg_rules.specs.declared.rule.Rule.{Rule}
use Rattle.rbg_rules.specs.Meaning.{Expression}
use Rattle.rbg_auto.specs.declared.plain.PlainNode.{PlainNode}
use Rattle.rbg_auto.specs.declared.plain.Automaton.{Automaton}
use Rattle.rbg_auto.specs.Steps.{AreStepsOf}
use Rattle.rbg_auto.specs.internal.Laying.{Laid, nothing, first_at, empty_at}
use Rattle.rbg_auto.specs.internal.Trees.{LaysAll, of_tree, in_sequence, in_sum}

abbrev pub laid_by : Option PlainNode → Laid
laid_by (Some node) = record {
  next = node.next.items;
  may_end = node.may_end;
  first = node.first.items;
  may_be_empty = node.may_be_empty;
}
laid_by None = nothing

-- What the nodes have at each position.
abbrev pub placed : List PlainNode → ℕ → Laid
placed nodes p = laid_by (slice_get nodes p)

-- There are that many nodes, with nothing laid.
pub record AreBlank (nodes : List PlainNode) (count : ℕ) : Type 0 where
  pub size : length nodes ≡ count
  pub blank : (q : ℕ) → placed nodes q ≡ nothing

-- The node was set at the position, if there is one for it.
pub record SetsPlainNode (old new : List PlainNode) (p : ℕ) (node : PlainNode) : Type 0 where
  pub size : length new ≡ length old
  pub there : p < length old → placed new p ≡ laid_by (Some node)
  pub others : (q : ℕ) → ¬ (q ≡ p) → placed new q ≡ placed old q

-- The tree is laid, or trees in a sequence or in a sum.
pub record FillsTree (old new : List PlainNode) (tree : Rule) (k : List ℕ) (end : Bool) : Type 0 where
  pub size : length new ≡ length old
  pub fills : LaysAll (length old) (placed old) (placed new) (of_tree tree) k end

pub record FillsSequence (old new : List PlainNode) (parts : List Rule) (k : List ℕ) (end : Bool) : Type 0 where
  pub size : length new ≡ length old
  pub fills : LaysAll (length old) (placed old) (placed new) (in_sequence parts) k end

pub record FillsSum (old new : List PlainNode) (parts : List Rule) (k : List ℕ) (end : Bool) : Type 0 where
  pub size : length new ≡ length old
  pub fills : LaysAll (length old) (placed old) (placed new) (in_sum parts) k end

-- The lists of the automaton are the steps of the rules.
pub record IsAutomatonOf (a : Automaton) (rules : Expression) : Type 0 where
  pub steps :
      AreStepsOf rules
      (first_at a.first.items (placed a.nodes.items))
      (λ i. (placed a.nodes.items i).next)
      (λ i. (placed a.nodes.items i).may_end)
      (empty_at a.may_be_empty (placed a.nodes.items))
