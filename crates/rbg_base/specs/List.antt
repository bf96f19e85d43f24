-- Lists of pairs that come one after another in one list.
use Rattle.std.specs.Prelude.{ℕ, ◌+◌, ◌<◌, ◌≤◌, List, map, slice_range}
use Rattle.rbg_base.specs.Move.{most_pairs}
use Rattle.rbg_base.specs.declared.list.Span.{Span}

-- The span is that of a move, in a list of this length.
pub record IsSpan (size : ℕ) (span : Span) : Type 0 where
  pub some : span.start < span.end
  pub few : span.end ≤ span.start + most_pairs
  pub within : span.end ≤ size

-- the lists at the spans
unfoldable pub lists_at : List (ℕ × ℕ) → List Span → List (List (ℕ × ℕ))
lists_at pairs spans = map (λ (span : Span). slice_range pairs span.start span.end) spans
