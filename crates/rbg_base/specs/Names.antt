-- Names of the language.
use Rattle.std.specs.Prelude.{ℕ, Bool, false, ◌&&◌, ◌||◌, ◌==◌, List, [], ◌∷◌}
use Rattle.std.specs.List.{list_all}
use Rattle.std.specs.Char.{is_ascii_alphabetic, is_ascii_digit}

-- a name begins with a letter or `_`
abbrev pub is_name_start : ℕ → Bool
is_name_start byte = is_ascii_alphabetic byte || byte == 95

-- and continues with letters, digits and `_`
abbrev pub is_name_part : ℕ → Bool
is_name_part byte = is_name_start byte || is_ascii_digit byte

-- a name: one byte that may begin it, then bytes that may continue it
abbrev pub is_name : List ℕ → Bool
is_name [] = false
is_name (byte ∷ bytes) = is_name_start byte && list_all is_name_part bytes
