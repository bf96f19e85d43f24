-- What decimal digits write.
use Rattle.std.specs.Prelude.{ℕ, ◌^◌, ◌&&◌, Bool, List, length, Option, Some, None, nat_lt, if◌then◌else◌}
use Rattle.std.specs.Char.{is_ascii_digit}
use Rattle.std.specs.List.{list_all}
use Rattle.std.specs.Str.Parse.{digits_value}

-- the text is one decimal digit or more
abbrev pub is_numeral : List ℕ → Bool
is_numeral text = nat_lt 0 (length text) && list_all is_ascii_digit text

-- the number that decimal digits write, with or without leading zeros, if it is below 2 ^ 64
unfoldable pub number_of_digits : List ℕ → Option ℕ
number_of_digits text =
    if is_numeral text && nat_lt (digits_value 10 text) (2 ^ 64)
    then Some (digits_value 10 text)
    else None
