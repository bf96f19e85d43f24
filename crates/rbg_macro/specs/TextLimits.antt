-- The limit on texts.
use Rattle.std.specs.Prelude.{ℕ}

-- the maximum length of a text, in bytes
abbrev pub longest_text : ℕ
longest_text = 262144
