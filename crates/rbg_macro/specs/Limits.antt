-- The limits on expansions.
use Rattle.std.specs.Prelude.{ℕ}

-- the maximum number of tokens that all expanded sections have together
abbrev pub most_kept : ℕ
most_kept = 100000

-- the maximum number of tokens that are read while the sections are expanded
abbrev pub most_read : ℕ
most_read = 1000000

-- the maximum level of expansion: a section's own tokens are at level 0, and a macro's body is one level above the list
-- that calls it
abbrev pub deepest_level : ℕ
deepest_level = 64

-- the maximum length of a joined token, in bytes
abbrev pub longest_joined : ℕ
longest_joined = 1024
