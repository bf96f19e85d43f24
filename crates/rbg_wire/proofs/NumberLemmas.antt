-- Numbers and the digits that spell them.
use Rattle.rbg_base.proofs.Common.{◌≡◌, ◌≢◌, ℕ, ◌<◌, ◌≤◌, ◌^◌, List, length, decimal, arith, subst, digits_decimal, length-decimal-le, All-from_get_or}
use Rattle.std.proofs.lemmas.Str.Parse.{not_in_digits}
use Rattle.rbg_base.proofs.Numerals.{digits}
use Rattle.rbg_base.proofs.CallerLemmas.{short_from_length}
use Rattle.rbg_wire.specs.Bytes.{LacksByte}

-- a number of at most nine digits is below 10 ^ 9, and back
pub length-short : (n : ℕ) → n < 10 ^ 9 → length (decimal n) ≤ 9
length-short n short = length-decimal-le 9 n (omega arith) short (omega arith)

pub short_found : (text : List ℕ) (n : ℕ) → length text ≤ 9 → n < 2 ^ 64 → text ≡ decimal n → n < 10 ^ 9
short_found text n few small spelled = short_from_length n 9 small (subst (λ bytes. length bytes ≤ 9) spelled few)

-- a byte that is no digit is none of a number's
pub lacks_byte-decimal : (byte n : ℕ) → byte < 48 → n < 2 ^ 64 → LacksByte byte (decimal n)
lacks_byte-decimal byte n below small = All-from_get_or (λ other. other ≢ byte) (decimal n) 0 (not_in_digits digits (decimal n) byte (digits_decimal digits n small) (λ within. absurd (omega (arith, within))))
