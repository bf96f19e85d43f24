-- Decimal digits and the number that they write.
use Rattle.rbg_base.proofs.Common.{◌≡◌, ◌≢◌, ℕ, ◌<◌, ◌^◌, ◌&&◌, if◌then◌else◌, MatchResult, Bor, Bool, true, false, List, length, get_or, nat_lt, decimal, Option, Some, None, IfSome, IfNone, Result, Ok, Err, refl, sym, ap, ◌∙◌, subst, inl, inr, arith, rules, list_all, same_Some, decimal-digits_value, digits_decimal, digits_value-decimal, decimal_nonempty, decimal_digit, first_decimal, IsAscii-from_digits, IsUtf8}
use Rattle.std.specs.Char.{is_ascii_digit}
use Rattle.std.specs.Result.{result_ok}
use Rattle.std.specs.Str.Parse.{digits_value, ParsesUnsigned}
use Rattle.std.proofs.lemmas.Bool.{and_parts, cond-true, ltb-true, lt-ltb, cases_lt}
use Rattle.std.proofs.lemmas.Str.{IsUtf8-from_ascii}
use Rattle.std.proofs.lemmas.Str.Parse.{IsNumeralModel, numerals_by_value, parse_digits}
use Rattle.rbg_base.specs.Decimals.{is_numeral, number_of_digits}

-- digits are std's digits
pub digits : IsNumeralModel (λ text. list_all is_ascii_digit text ≡ true) (digits_value 10)
digits = numerals_by_value _ (search rules)

-- digits are text
pub utf8-digits : (text : List ℕ) → list_all is_ascii_digit text ≡ true → IsUtf8 text
utf8-digits text each = IsUtf8-from_ascii text (IsAscii-from_digits text (digits.to text each))

-- what `from_utf8` makes of text
pub text_read : {E : Type 0} {bytes : List ℕ} (Fault : E → Type 0) (read : Result (Bor (List ℕ)) E) (text : Bor (List ℕ))
    → MatchResult read (λ s. (s.now ≡ bytes) × IsUtf8 bytes) Fault
    → Some text ≡ result_ok read
    → text.now ≡ bytes
text_read Fault (Ok s) text cases given = ap (λ (t : Bor (List ℕ)). t.now) (same_Some text s given) ∙ cases.0
text_read Fault (Err e) text cases given = absurd cc

pub not_refused : {E : Type 0} {bytes : List ℕ} (Read : Bor (List ℕ) → Type 0) (Place : E → Type 0) (read : Result (Bor (List ℕ)) E)
    → MatchResult read Read (λ e. (¬ IsUtf8 bytes) × Place e)
    → IsUtf8 bytes
    → result_ok read ≡ None
    → ⊥
not_refused Read Place (Ok s) cases text none = absurd cc
not_refused Read Place (Err e) cases text none = cases.0 text

-- a choice that gives a value
if_some : {A : Type 0} (b : Bool) (x y : A) → (if b then Some x else None) ≡ Some y → (b ≡ true) × (x ≡ y)
if_some true x y some = (refl, same_Some x y some)
if_some false x y some = absurd cc

-- one digit or more whose number fits
pub number_fits : (text : List ℕ) → list_all is_ascii_digit text ≡ true → 0 < length text → digits_value 10 text < 2 ^ 64 → number_of_digits text ≡ Some (digits_value 10 text)
unfolding number_of_digits
number_fits text each some fits =
    let numeral : is_numeral text ≡ true = rw (lt-ltb 0 (length text) some, each) refl in
    let test : (is_numeral text && nat_lt (digits_value 10 text) (2 ^ 64)) ≡ true = rw (numeral, lt-ltb (digits_value 10 text) (2 ^ 64) fits) refl in
    cond-true (is_numeral text && nat_lt (digits_value 10 text) (2 ^ 64)) (Some (digits_value 10 text)) None test

-- a number is that of one digit or more, and fits
pub record IsNumberOf (text : List ℕ) (n : ℕ) : Type 0 where
  pub some : 0 < length text
  pub each : list_all is_ascii_digit text ≡ true
  pub value : digits_value 10 text ≡ n
  pub fits : n < 2 ^ 64

pub number_some : (text : List ℕ) (n : ℕ) → number_of_digits text ≡ Some n → IsNumberOf text n
unfolding number_of_digits
number_some text n some =
    let given = if_some (is_numeral text && nat_lt (digits_value 10 text) (2 ^ 64)) (digits_value 10 text) n some in
    let test = and_parts (is_numeral text) (nat_lt (digits_value 10 text) (2 ^ 64)) given.0 in
    let numeral = and_parts (nat_lt 0 (length text)) (list_all is_ascii_digit text) test.0 in
    record {
      some = ltb-true 0 (length text) numeral.0;
      each = numeral.1;
      value = given.1;
      fits = subst (λ m. m < 2 ^ 64) given.1 (ltb-true (digits_value 10 text) (2 ^ 64) test.1);
    }

-- a text has a number or none
none_or_some : (o : Option ℕ) → ((n : ℕ) → o ≡ Some n → ⊥) → o ≡ None
none_or_some None never = refl
none_or_some (Some n) never = absurd (never n refl)

pub number_none : (text : List ℕ) → ((n : ℕ) → IsNumberOf text n → ⊥) → number_of_digits text ≡ None
number_none text never = none_or_some (number_of_digits text) (λ n some. never n (number_some text n some))

-- what std's `parse` makes of digits
pub number_parsed : (E : Type 0) (text : List ℕ) (parsed : Result ℕ E) → list_all is_ascii_digit text ≡ true → ParsesUnsigned 64 10 text parsed → result_ok parsed ≡ number_of_digits text
number_parsed E text (Ok n) each parses =
    let given = parse_digits digits {E = E} 64 text (Ok n) parses each in
    ap Some given.1 ∙ sym (number_fits text each given.0.0 given.0.1)
number_parsed E text (Err e) each parses =
    let never = parse_digits digits {E = E} 64 text (Err e) parses each in
    sym (number_none text (λ n is_number. never (is_number.some, subst (λ m. m < 2 ^ 64) (sym is_number.value) is_number.fits)))

-- the number of a decimal form
pub number-decimal : (n : ℕ) → n < 2 ^ 64 → number_of_digits (decimal n) ≡ Some n
number-decimal n small =
    let value = digits_value-decimal digits n small in
    number_fits (decimal n) (digits_decimal digits n small) (decimal_nonempty n small) (subst (λ m. m < 2 ^ 64) (sym value) small) ∙ ap Some value

-- a decimal form that begins with 0 is the one digit
first_zero_alone : (n : ℕ) → n < 2 ^ 64 → get_or (decimal n) 0 0 ≡ 48 → length (decimal n) ≡ 1
first_zero_alone n small zero_first = elim (cases_lt 0 n) [
  | inl above ↦ absurd (omega (arith, first_decimal n above small))
  | inr none ↦ (let zero : n ≡ 0 = omega arith in rw zero (ap length (decimal_digit 0 (omega arith))))
]

-- digits with a zero in front of others are no decimal form
pub zero_in_front : (text : List ℕ) → 1 < length text → get_or text 0 0 ≡ 48 → (n : ℕ) → n < 2 ^ 64 → text ≡ decimal n → ⊥
zero_in_front text more zero n small spelled =
    let one : length text ≡ 1 = ap length spelled ∙ first_zero_alone n small (subst (λ bytes. get_or bytes 0 0 ≡ 48) spelled zero) in
    absurd (omega arith)

-- digits with no zero in front of others are the decimal form of their number
pub decimal_of_number : (text : List ℕ) (n : ℕ) → (1 < length text → get_or text 0 0 ≢ 48) → number_of_digits text ≡ Some n → text ≡ decimal n
decimal_of_number text n first some =
    let is_number = number_some text n some in
    let alone : get_or text 0 0 ≡ 48 → length text ≡ 1 = λ zero. elim (cases_lt 1 (length text)) [ inl more ↦ absurd (first more zero) | inr one ↦ omega (arith, is_number.some) ] in
    sym (decimal-digits_value digits text is_number.each is_number.some alone (subst (λ m. m < 2 ^ 64) (sym is_number.value) is_number.fits)) ∙ ap decimal is_number.value

-- what reading digits returns for the number whose decimal form they are
pub decimal_found : (text : List ℕ) (read : Option ℕ) → (1 < length text → get_or text 0 0 ≢ 48) → read ≡ number_of_digits text → IfSome read (λ n. (n < 2 ^ 64) × (text ≡ decimal n))
decimal_found text None first is = tt
decimal_found text (Some n) first is = ((number_some text n (sym is)).fits, decimal_of_number text n first (sym is))

pub decimal_none : (text : List ℕ) (read : Option ℕ) → read ≡ number_of_digits text → IfNone read ((n : ℕ) → n < 2 ^ 64 → text ≡ decimal n → ⊥)
decimal_none text (Some n) is = tt
decimal_none text None is = λ n small spelled. let given = is ∙ ap number_of_digits spelled ∙ number-decimal n small in absurd cc
