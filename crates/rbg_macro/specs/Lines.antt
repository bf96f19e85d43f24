-- Lines of a text. A line ends at its line feed.
use Rattle.std.specs.Prelude.{◌≡◌, ◌⊎◌, ℕ, ◌+◌, List, Some, ◌==◌, ◌≢◌, filter, length, slice_get, All}

-- How many line feeds the bytes hold.
abbrev pub line_feeds : List ℕ → ℕ
line_feeds bytes = length (filter (λ byte. byte == 10) bytes)

-- The bytes hold no line feed.
abbrev pub IsOneLine : List ℕ → Type 0
IsOneLine bytes = All (λ byte. byte ≢ 10) bytes

-- A line begins after these bytes: there are none, or the last of them is a line feed.
abbrev pub IsLineStart : (bytes : List ℕ) → (start : ℕ) → Type 0
IsLineStart bytes start = (start ≡ 0) ⊎ ((before : ℕ) × (start ≡ before + 1) × (slice_get bytes before ≡ Some 10))
