-- What the walk over a tree of the program does to the table.
use Rattle.std.specs.Prelude.{◌≡◌, ℕ, ◌<◌, ◌⊎◌, List, [], length, Bool, true, Option}
use Rattle.rbg_rules.specs.declared.rule.Action.{Action}
use Rattle.rbg_rules.specs.declared.rule.Rule.{Rule}
use Rattle.rbg_rules.specs.Meaning.{expression_of, HasNoEmptySum}
use Rattle.rbg_auto.specs.declared.span.Node.{Node}
use Rattle.rbg_auto.specs.declared.span.Opening.{Opening}
use Rattle.rbg_auto.specs.declared.span.Span.{Span}
use Rattle.rbg_auto.specs.declared.steps.Glance.{Glance}
use Rattle.rbg_auto.specs.declared.steps.Glance.TheVariants.{Unknown}
use Rattle.rbg_auto.specs.declared.rest.Rest.{Rest}
use Rattle.rbg_auto.specs.declared.table.Table.{Table}
use Rattle.rbg_auto.specs.internal.Firsts.{may_be_empty, firsts}
use Rattle.rbg_auto.specs.internal.Laying.{Laid}
use Rattle.rbg_auto.specs.internal.Trees.{LaysAll, of_tree, in_sequence}
use Rattle.rbg_auto.specs.internal.Tables.{IsSpan, Keeps, IsKept, Grows, laid_at, laid_of, glance_at}

-- What the table has at each position.
abbrev pub laid_in : Table → ℕ → Laid
laid_in t = laid_at t.entries.items t.nodes.items t.insides.items

-- The glance that the table has of the action at each position.
abbrev pub glance_in : Table → ℕ → Glance
glance_in t = glance_at t.nodes.items

-- The table has the same positions, its lists are where they were, and an action without a glance still has none.
pub record Extends (old new : Table) : Type 0 where
  pub entries : Grows old.entries.items new.entries.items
  pub size : length new.nodes.items ≡ length old.nodes.items
  pub unknown : (q : ℕ) → glance_in old q ≡ Unknown → glance_in new q ≡ Unknown

-- A list was added, and nothing was laid.
pub record AddsList (old new : Table) : Type 0 where
  pub extends : Extends old new
  pub same : (q : ℕ) → laid_in new q ≡ laid_in old q

-- The node and the opening were laid at the position, if the table has it.
pub record SetsNode (old new : Table) (p : ℕ) (node : Node) (inside : Opening) : Type 0 where
  pub extends : Extends old new
  pub there : p < length old.nodes.items → laid_in new p ≡ laid_of old.entries.items node inside
  pub others : (q : ℕ) → ¬ (q ≡ p) → laid_in new q ≡ laid_in old q

-- The node with this list, with no glance of its action.
abbrev pub node_of : Span → Bool → Node
node_of s end = record { next = s; may_end = end; glance = Unknown }

-- The list of what comes after was added, unless it was there, and then the node with it and the opening were laid.
pub record LaysAt (old new : Table) (p : ℕ) (inside : Opening) (rest : Rest) : Type 0 where
  pub middle : Table
  pub next : Span
  pub adds : AddsList old middle
  pub keeps : Keeps middle.entries.items next rest.positions.items
  pub sets : SetsNode middle new p (node_of next rest.may_end) inside

-- The glance of the action at the position was recorded, if the table has the position, and nothing else was changed.
pub record SetsGlance (old new : Table) (p : ℕ) (glance : Glance) : Type 0 where
  pub size : length new.nodes.items ≡ length old.nodes.items
  pub entries : new.entries.items ≡ old.entries.items
  pub laid : (q : ℕ) → laid_in new q ≡ laid_in old q
  pub told : (q : ℕ) → (glance_in new q ≡ glance_in old q) ⊎ ((q ≡ p) × (glance_in new q ≡ glance))

-- The tree is laid, or trees in a sequence.
pub record LaysTree (old new : Table) (tree : Rule) (k : List ℕ) (end : Bool) : Type 0 where
  pub extends : Extends old new
  pub lays : LaysAll (length old.nodes.items) (laid_in old) (laid_in new) (of_tree tree) k end

pub record LaysSequence (old new : Table) (parts : List Rule) (k : List ℕ) (end : Bool) : Type 0 where
  pub extends : Extends old new
  pub lays : LaysAll (length old.nodes.items) (laid_in old) (laid_in new) (in_sequence parts) k end

-- The same if a rest comes after them.
abbrev pub LaysBefore : Table → Table → Rule → Rest → Type 0
LaysBefore old new tree rest = LaysTree old new tree rest.positions.items rest.may_end

abbrev pub LaysPartsBefore : Table → Table → List Rule → Rest → Type 0
LaysPartsBefore old new parts rest = LaysSequence old new parts rest.positions.items rest.may_end

-- A span that is known holds what comes after.
abbrev pub IsKeptOf : Table → Option Span → Rest → Type 0
IsKeptOf t kept rest = IsKept t.entries.items kept rest.positions.items

-- The tree is laid as a level of its own, whose words begin as the opening has it.
pub record LaysLevel (old new : Table) (tree : Rule) (opening : Opening) : Type 0 where
  pub extends : Extends old new
  pub within : IsSpan (length new.entries.items) opening.first
  pub lays : LaysAll (length old.nodes.items) (laid_in old) (laid_in new) (of_tree tree) [] true
  pub first :
      (actions : List Action) → HasNoEmptySum (expression_of actions tree) →
      Keeps new.entries.items opening.first (firsts (expression_of actions tree))
  pub empty :
      (actions : List Action) → HasNoEmptySum (expression_of actions tree) →
      opening.may_be_empty ≡ may_be_empty (expression_of actions tree)
