-- The longest token at the front of some bytes.
use Rattle.rbg_base.proofs.Common.{ℕ, ◌≡◌, ◌+◌, ◌<◌, ◌≤◌, Bool, true, false, List, [], ◌∷◌, ◌++◌, length, get_or, take, drop, refl, sym, ap, ◌∙◌, arith, cond, add_comm, add-one, take-append_seam, and_parts, nat_tests, list_all, prefix_len}
use Rattle.std.proofs.lemmas.List.{take-append-drop}
use Rattle.std.proofs.lemmas.List.Folds.{length-prefix_len}
use Rattle.std.specs.Char.{is_ascii_digit}
use Rattle.rbg_macro.proofs.TextCommon.{Symbol, DoubleArrow, TokenKind, IsLongestSymbol, BeginsNoSymbol, IsToken, BeginsNoToken, is_number, spelling, Spells}
use Rattle.rbg_macro.specs.declared.token.TokenKind.TheVariants.{Name, Number, Symbol as A_Symbol}
use Rattle.rbg_base.specs.Names.{is_name, is_name_start, is_name_part}

-- no symbol begins as a name or a number does
pub symbol_starts_no_name : (s : Symbol) (rest : List ℕ) → is_name_start (get_or (spelling s ++ rest) 0 0) ≡ false
symbol_starts_no_name DoubleArrow rest = refl
symbol_starts_no_name _ rest = refl

pub symbol_starts_no_number : (s : Symbol) (rest : List ℕ) → is_ascii_digit (get_or (spelling s ++ rest) 0 0) ≡ false
symbol_starts_no_number DoubleArrow rest = refl
symbol_starts_no_number _ rest = refl

-- a symbol has a byte
pub 0<length-spelling : (s : Symbol) → 0 < length (spelling s)
0<length-spelling DoubleArrow = omega arith
0<length-spelling _ = omega arith

-- no name begins as a number does
pub digit_starts_no_name : (b : ℕ) → is_ascii_digit b ≡ true → is_name_start b ≡ false
digit_starts_no_name b d = grind (arith, nat_tests)

pub start_is_part : (b : ℕ) → is_name_start b ≡ true → is_name_part b ≡ true
start_is_part b h = rw h refl

-- every byte of a name may be a part of a name, and every byte of a number is a digit
pub name_parts : (word : List ℕ) → is_name word ≡ true → list_all is_name_part word ≡ true
name_parts [] h = refl
name_parts (b ∷ bs) h =
    let (first, beyond) = and_parts (is_name_start b) (list_all is_name_part bs) h in
    rw (start_is_part b first) beyond

pub number_digits : (word : List ℕ) → is_number word ≡ true → list_all is_ascii_digit word ≡ true
number_digits [] h = refl
number_digits (b ∷ bs) h = h

-- a prefix that passes a test is no longer than the longest one that does, and that one passes
length-le-prefix_len : (p : ℕ → Bool) (front rest : List ℕ) → list_all p front ≡ true → length front ≤ prefix_len p (front ++ rest)
length-le-prefix_len p [] rest passes = omega arith
length-le-prefix_len p (b ∷ front) rest passes =
    let (first, beyond) = and_parts (p b) (list_all p front) passes in
    let shorter = length-le-prefix_len p front rest beyond in
    rw first (omega arith)

pub list_all-prefix_len : (p : ℕ → Bool) (bytes : List ℕ) → list_all p (take (prefix_len p bytes) bytes) ≡ true
list_all-prefix_len p [] = refl
list_all-prefix_len p (b ∷ bs) = by_first (p b) refl (list_all-prefix_len p bs)
  where
    by_first : (passes : Bool) → p b ≡ passes → list_all p (take (prefix_len p bs) bs) ≡ true → list_all p (take (cond passes (1 + prefix_len p bs) 0) (b ∷ bs)) ≡ true
    by_first false e beyond = refl
    by_first true e beyond = rw (add_comm 1 (prefix_len p bs), add-one, e) beyond

-- if bytes begin with a name, no token at the front is longer than the longest prefix of name bytes
longest_name : (k : TokenKind) (longer after : List ℕ) → is_name_start (get_or (longer ++ after) 0 0) ≡ true → Spells k longer → length longer ≤ prefix_len is_name_part (longer ++ after)
longest_name Name longer after start spelt = length-le-prefix_len is_name_part longer after (name_parts longer spelt)
longest_name Number [] after start spelt = cc
longest_name Number (b ∷ bs) after start spelt =
    let (first, beyond) = and_parts (is_ascii_digit b) (list_all is_ascii_digit bs) spelt in
    let none = digit_starts_no_name b first in
    cc
longest_name (A_Symbol s) longer after start spelt =
    let none = symbol_starts_no_name s after in
    absurd (cc)

longest_number : (k : TokenKind) (longer after : List ℕ) → is_ascii_digit (get_or (longer ++ after) 0 0) ≡ true → Spells k longer → length longer ≤ prefix_len is_ascii_digit (longer ++ after)
longest_number Name [] after start spelt = cc
longest_number Name (b ∷ bs) after start spelt =
    let (first, beyond) = and_parts (is_name_start b) (list_all is_name_part bs) spelt in
    let none = digit_starts_no_name b start in
    cc
longest_number Number longer after start spelt = length-le-prefix_len is_ascii_digit longer after (number_digits longer spelt)
longest_number (A_Symbol s) longer after start spelt =
    let none = symbol_starts_no_number s after in
    absurd (cc)

longest_symbol : (k : TokenKind) (symbol : Symbol) (longer after : List ℕ) → is_name_start (get_or (longer ++ after) 0 0) ≡ false → is_ascii_digit (get_or (longer ++ after) 0 0) ≡ false → IsLongestSymbol (longer ++ after) symbol → Spells k longer → length longer ≤ length (spelling symbol)
longest_symbol Name symbol [] after no_name no_number is spelt = cc
longest_symbol Name symbol (b ∷ bs) after no_name no_number is spelt =
    let (first, beyond) = and_parts (is_name_start b) (list_all is_name_part bs) spelt in
    cc
longest_symbol Number symbol [] after no_name no_number is spelt = cc
longest_symbol Number symbol (b ∷ bs) after no_name no_number is spelt =
    let (first, beyond) = and_parts (is_ascii_digit b) (list_all is_ascii_digit bs) spelt in
    cc
longest_symbol (A_Symbol s) symbol longer after no_name no_number is spelt =
    rw spelt (is.longest s after (ap (λ (word : List ℕ). word ++ after) (sym spelt)))

no_word : (k : TokenKind) (word after : List ℕ) → is_name_start (get_or (word ++ after) 0 0) ≡ false → is_ascii_digit (get_or (word ++ after) 0 0) ≡ false → BeginsNoSymbol (word ++ after) 0 → Spells k word → ⊥
no_word Name [] after no_name no_number none spelt = cc
no_word Name (b ∷ bs) after no_name no_number none spelt =
    let (first, beyond) = and_parts (is_name_start b) (list_all is_name_part bs) spelt in
    cc
no_word Number [] after no_name no_number none spelt = cc
no_word Number (b ∷ bs) after no_name no_number none spelt =
    let (first, beyond) = and_parts (is_ascii_digit b) (list_all is_ascii_digit bs) spelt in
    cc
no_word (A_Symbol s) word after no_name no_number none spelt =
    none s after (0<length-spelling s) (ap (λ (w : List ℕ). w ++ after) (sym spelt))

-- the longest prefix of name bytes is a name, and that of digits a number
name_front : (bytes : List ℕ) → is_name_start (get_or bytes 0 0) ≡ true → is_name (take (prefix_len is_name_part bytes) bytes) ≡ true
name_front [] start = cc
name_front (b ∷ bs) start =
    rw (start_is_part b start, add_comm 1 (prefix_len is_name_part bs), add-one, start) (list_all-prefix_len is_name_part bs)

number_front : (bytes : List ℕ) → is_ascii_digit (get_or bytes 0 0) ≡ true → is_number (take (prefix_len is_ascii_digit bytes) bytes) ≡ true
number_front [] start = cc
number_front (b ∷ bs) start =
    rw (start, add_comm 1 (prefix_len is_ascii_digit bs), add-one, start) (list_all-prefix_len is_ascii_digit bs)

-- the longest prefix of bytes of one kind is a token, if it is spelt so and none is longer
prefix_is_token : (k : TokenKind) (part begins : ℕ → Bool) (bytes : List ℕ) → begins 47 ≡ false → begins (get_or bytes 0 0) ≡ true → Spells k (take (prefix_len part bytes) bytes)
    → ((l : TokenKind) (longer after : List ℕ) → begins (get_or (longer ++ after) 0 0) ≡ true → Spells l longer → length longer ≤ prefix_len part (longer ++ after))
    → IsToken k (take (prefix_len part bytes) bytes) (drop (prefix_len part bytes) bytes)
prefix_is_token k part begins bytes no_slash start spelt longest = record {
  spelt = spelt;
  longest = λ l longer after spells e.
      let whole = e ∙ take-append-drop (prefix_len part bytes) bytes in
      let first : begins (get_or (longer ++ after) 0 0) ≡ true = rw whole start in
      let bound = longest l longer after first spells in
      let within = rw whole at bound in
      rw (length-prefix_len part bytes) within;
  no_comment = λ line e.
      let whole = sym (take-append-drop (prefix_len part bytes) bytes) ∙ e in
      let first = rw whole at start in
      cc;
}

pub name_is_token : (bytes : List ℕ) → is_name_start (get_or bytes 0 0) ≡ true → IsToken Name (take (prefix_len is_name_part bytes) bytes) (drop (prefix_len is_name_part bytes) bytes)
name_is_token bytes start = prefix_is_token Name is_name_part is_name_start bytes refl start (name_front bytes start) longest_name

pub number_is_token : (bytes : List ℕ) → is_ascii_digit (get_or bytes 0 0) ≡ true → IsToken Number (take (prefix_len is_ascii_digit bytes) bytes) (drop (prefix_len is_ascii_digit bytes) bytes)
number_is_token bytes start = prefix_is_token Number is_ascii_digit is_ascii_digit bytes refl start (number_front bytes start) longest_number

pub symbol_is_token : (bytes : List ℕ) (symbol : Symbol) → is_name_start (get_or bytes 0 0) ≡ false → is_ascii_digit (get_or bytes 0 0) ≡ false → ((line : List ℕ) → bytes ≡ 47 ∷ 47 ∷ line → ⊥) → IsLongestSymbol bytes symbol → IsToken (A_Symbol symbol) (take (length (spelling symbol)) bytes) (drop (length (spelling symbol)) bytes)
symbol_is_token bytes symbol no_name no_number no_comment is = record {
  spelt = word;
  longest = λ k longer after spelt e.
      let whole = e ∙ take-append-drop (length (spelling symbol)) bytes in
      let start : is_name_start (get_or (longer ++ after) 0 0) ≡ false = rw whole no_name in
      let digit : is_ascii_digit (get_or (longer ++ after) 0 0) ≡ false = rw whole no_number in
      let stands : IsLongestSymbol (longer ++ after) symbol = rw whole is in
      rw word (longest_symbol k symbol longer after start digit stands spelt);
  no_comment = λ line e.
      no_comment line (sym (take-append-drop (length (spelling symbol)) bytes) ∙ e);
}
  where
    word : take (length (spelling symbol)) bytes ≡ spelling symbol
    word = ap (take (length (spelling symbol))) (sym is.stands) ∙ take-append_seam (spelling symbol) (drop (length (spelling symbol)) bytes)

pub begins_no_token : (bytes : List ℕ) → is_name_start (get_or bytes 0 0) ≡ false → is_ascii_digit (get_or bytes 0 0) ≡ false → BeginsNoSymbol bytes 0 → BeginsNoToken bytes
begins_no_token bytes no_name no_number none k word rest spelt e =
    let start : is_name_start (get_or (word ++ rest) 0 0) ≡ false = rw e no_name in
    let digit : is_ascii_digit (get_or (word ++ rest) 0 0) ≡ false = rw e no_number in
    let symbols : BeginsNoSymbol (word ++ rest) 0 = rw e none in
    no_word k word rest start digit symbols spelt
