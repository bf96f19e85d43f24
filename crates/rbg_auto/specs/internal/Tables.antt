-- The lists of an array, and what is laid at each position of it.
use Rattle.std.specs.Prelude.{◌≡◌, ℕ, ◌≤◌, List, ◌++◌, length, slice_range, slice_index_or, false, Option, Some}
use Rattle.rbg_auto.specs.declared.span.Span.{Span}
use Rattle.rbg_auto.specs.declared.span.Opening.{Opening}
use Rattle.rbg_auto.specs.declared.span.Node.{Node}
use Rattle.rbg_auto.specs.declared.steps.Glance.{Glance}
use Rattle.rbg_auto.specs.declared.steps.Glance.TheVariants.{Unknown}
use Rattle.rbg_auto.specs.internal.Laying.{Laid}

-- The span is one of an array of that many entries.
pub record IsSpan (size : ℕ) (s : Span) : Type 0 where
  pub starts : s.start ≤ s.end
  pub ends : s.end ≤ size

-- The list of a node, and that of an opening, are of such an array.
abbrev pub IsNextWithin : ℕ → Node → Type 0
IsNextWithin size node = IsSpan size node.next

abbrev pub IsFirstWithin : ℕ → Opening → Type 0
IsFirstWithin size inside = IsSpan size inside.first

-- The list of a span.
abbrev pub listed : List ℕ → Span → List ℕ
listed entries s = slice_range entries s.start s.end

-- The span holds the list.
pub record Keeps (entries : List ℕ) (s : Span) (positions : List ℕ) : Type 0 where
  pub within : IsSpan (length entries) s
  pub list : listed entries s ≡ positions

-- A span that is known holds the list.
pub record IsKept (entries : List ℕ) (kept : Option Span) (positions : List ℕ) : Type 0 where
  pub keeps : (s : Span) → kept ≡ Some s → Keeps entries s positions

-- The array was extended.
pub record Grows (old new : List ℕ) : Type 0 where
  pub more : List ℕ
  pub is : new ≡ old ++ more

abbrev pub no_span : Span
no_span = record { start = 0; end = 0 }

-- The opening of a position without a pattern.
abbrev pub no_inside : Opening
no_inside = record { first = no_span; may_be_empty = false }

-- The node of a position that isn't in the rules.
abbrev pub no_node : Node
no_node = record { next = no_span; may_end = false; glance = Unknown }

abbrev pub laid_of : List ℕ → Node → Opening → Laid
laid_of entries node inside = record {
  next = listed entries node.next;
  may_end = node.may_end;
  first = listed entries inside.first;
  may_be_empty = inside.may_be_empty;
}

abbrev pub laid_at : List ℕ → List Node → List Opening → ℕ → Laid
laid_at entries nodes insides p = laid_of entries (slice_index_or nodes p no_node) (slice_index_or insides p no_inside)

-- The glance of the action at each position.
abbrev pub glance_at : List Node → ℕ → Glance
glance_at nodes p = (slice_index_or nodes p no_node).glance
