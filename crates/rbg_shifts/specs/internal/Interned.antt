-- Nodes with their lists, and the nodes of places in the rules.
use Rattle.std.specs.Prelude.{◌≡◌, ℕ, ◌+◌, ◌<◌, List, ◌++◌, length, slice_range, slice_index_or, Bool}
use Rattle.rbg_rules.specs.Meaning.{Expression, positions_of, outermost, inside, Start, beginning, after}
use Rattle.rbg_auto.specs.declared.steps.Expr.TheVariants.{Rules, Inside}
use Rattle.rbg_shifts.specs.declared.branches.Branch.{Branch}
use Rattle.rbg_shifts.specs.declared.lists.Lists.{Lists}
use Rattle.rbg_shifts.specs.declared.origin.Origin.{Origin}
use Rattle.rbg_shifts.specs.declared.origin.Origin.TheVariants.{Begin, After}
use Rattle.rbg_shifts.specs.declared.interner.Node.{Node}
use Rattle.rbg_shifts.specs.declared.interner.Interner.{Interner}
use Rattle.rbg_shifts.specs.internal.Branches.{AreBranches}
use Rattle.rbg_shifts.specs.internal.Spans.{no_node}
use Rattle.rbg_shifts.specs.internal.Steps.{IsAnswerAt}

-- The list was extended.
pub record Extends {X : Type 0} (old new : List X) : Type 0 where
  pub more : List X
  pub is : new ≡ old ++ more

abbrev pub node_in : Interner → ℕ → Node
node_in interner n = slice_index_or interner.nodes.items n no_node

-- The list of a node, and whether words may end there.
abbrev pub list_at : Interner → ℕ → List ℕ
list_at interner n = slice_range interner.positions.items (node_in interner n).start (node_in interner n).end

abbrev pub may_end_at : Interner → ℕ → Bool
may_end_at interner n = (node_in interner n).may_end

-- The node has the list.
pub record IsKept (interner : Interner) (list : List ℕ) (may_end : Bool) (n : ℕ) : Type 0 where
  pub there : n < length interner.nodes.items
  pub list_is : list_at interner n ≡ list
  pub may_end_is : may_end_at interner n ≡ may_end

-- What was there keeps its place.
pub record ExtendsInterner (old new : Interner) : Type 0 where
  pub positions : Extends old.positions.items new.positions.items
  pub nodes : Extends old.nodes.items new.nodes.items

-- The node is that of the place f.
pub record IsNodeOf (rules : Expression) (interner : Interner) (f : Start) (n : ℕ) : Type 0 where
  pub there : n < length interner.nodes.items
  pub answer : IsAnswerAt rules f (list_at interner n) (may_end_at interner n)

-- The nodes of the rules, and by position of what comes after and of what is inside, up to a number of them.
pub record AreListsUpTo (rules : Expression) (many : ℕ) (interner : Interner) (first : ℕ) (afters insides : List ℕ) : Type 0 where
  pub begins : IsNodeOf rules interner (beginning outermost) first
  pub afters_size : length afters ≡ many
  pub insides_size : length insides ≡ many
  pub after_each : (p : ℕ) → p < many → IsNodeOf rules interner (after p) (slice_index_or afters p 0)
  pub inside_each : (p : ℕ) → p < many → IsNodeOf rules interner (beginning (inside p)) (slice_index_or insides p 0)

-- The node of a point in the rules: points after which the same positions come next share one.
abbrev pub origin_node : Lists → Origin → ℕ
origin_node lists (Begin Rules) = lists.rules
origin_node lists (Begin (Inside p)) = slice_index_or lists.insides.items p 0
origin_node lists (After p) = slice_index_or lists.afters.items p 0

-- The nodes of all positions, and the branches of their lists.
pub record AreListsOf (rules : Expression) (lists : Lists) : Type 0 where
  pub nodes :
      AreListsUpTo rules (length (positions_of rules) + 1) lists.interner lists.rules lists.afters.items lists.insides.items
  pub branches : AreBranches rules lists.afters.items lists.interner.positions.items lists.branches.items

-- The branches of a node.
abbrev pub branches_at : Lists → ℕ → List Branch
branches_at lists n = slice_range lists.branches.items (node_in lists.interner n).start (node_in lists.interner n).end
