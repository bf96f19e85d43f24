-- What lines have told.
use Rattle.std.specs.Prelude.{◌≡◌, ℕ, List, [], length, slice_get, Some, slice_index_or}

-- What a line has told so far: the bytes that it gave, how often it answered that it has ended, the bytes that it took,
-- how often it took none of the bytes that it was offered, and how often it failed.
pub record Told : Type 0 where
  pub given : List ℕ
  pub ends : ℕ
  pub taken : List ℕ
  pub stalls : ℕ
  pub failures : ℕ

-- what a line has told that nobody has used
abbrev pub nothing_told : Told
nothing_told = record { given = []; ends = 0; taken = []; stalls = 0; failures = 0 }

-- This may be all that the line has told so far, and its failures are counted.
pub record Tells {L : Type 0} (told : L → Told → Type 0) (failure_count : L → ℕ) (line : L) (so_far : Told) :
    Type 0 where
  pub record_of : told line so_far
  pub counted : failure_count line ≡ so_far.failures

-- what the line of a seat has told, where these are what the lines have told, seat 1 first
abbrev pub told_at : List Told → (index : ℕ) → Told
told_at lines index = slice_index_or lines index nothing_told

-- Each line tells what stands at its place in the list.
pub record TellEach {L : Type 0} (told : L → Told → Type 0) (failure_count : L → ℕ) (lines : List L)
    (so_far : List Told) : Type 0 where
  pub as_many : length so_far ≡ length lines
  pub each : (index : ℕ) (line : L) →
      slice_get lines index ≡ Some line →
      Tells told failure_count line (told_at so_far index)
