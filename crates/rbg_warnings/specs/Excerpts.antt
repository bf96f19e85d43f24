-- How the bytes of a line are written, and what is below them.
use Rattle.std.specs.Prelude.{ℕ, ◌==◌, ◌||◌, ◌&&◌, not, nat_lt, if◌then◌else◌}

-- A control byte other than a tab is written as `?`.
abbrev pub shown_as : ℕ → ℕ
shown_as byte = if (nat_lt byte 32 && not (byte == 9)) || byte == 127 then 63 else byte

-- A tab is below a tab, and a space below every other byte.
abbrev pub padded_as : ℕ → ℕ
padded_as byte = if byte == 9 then 9 else 32
