-- A part at the front of some bytes, and what the bytes give.
use Rattle.rbg_base.proofs.Common.{ℕ, ◌≡◌, ◌≢◌, ◌+◌, ◌<◌, ◌≤◌, Bool, true, false, List, [], ◌∷◌, ◌++◌, length, get_or, take, drop, refl, sym, ap, ◌∙◌, arith, add-one, add-zero, suc, length-append, length-drop, drop-cons, Err, nat_tests, prefix_len-le-length, prefix_len_stops, prefix_len}
use Rattle.std.proofs.lemmas.List.{length-take-le, take-append-drop, get_or-drop}
use Rattle.std.specs.Char.{is_ascii_digit}
use Rattle.rbg_macro.proofs.TextCommon.{ZeroByte, BadByte, Symbol, TokenKind, Skips, Takes, BeginsComment, IsLongestSymbol, Lexes, blank, comment, token, zero_byte, zero_in_comment, bad_byte, is_blank, is_comment_byte, IsComment, IsLineEnd, IsToken, BeginsNoToken, spelling}
use Rattle.rbg_macro.specs.declared.token.TokenKind.TheVariants.{Name, Number, Symbol as A_Symbol}
use Rattle.rbg_base.specs.Names.{is_name_start, is_name_part}
use Rattle.rbg_macro.proofs.Words.{list_all-prefix_len, start_is_part, name_is_token, number_is_token, symbol_is_token, 0<length-spelling}

-- at least one byte: the first one and the rest
front : (bytes : List ℕ) → 0 < length bytes → bytes ≡ get_or bytes 0 0 ∷ drop 1 bytes
front [] some = absurd (omega arith)
front (b ∷ bs) some = refl

pub zero_first : (bytes : List ℕ) → 0 < length bytes → get_or bytes 0 0 ≡ 0 → (at : ℕ) → Lexes at bytes (Err ZeroByte)
zero_first [] some zero at = absurd (omega arith)
zero_first (b ∷ bs) some zero at = rw zero (zero_byte at bs)

pub blank_first : (bytes : List ℕ) → 0 < length bytes → is_blank (get_or bytes 0 0) ≡ true → Skips bytes 1
blank_first [] some is = absurd (omega arith)
blank_first (b ∷ bs) some is = record {
  some = omega arith;
  within = omega arith;
  reads = λ at read beyond. blank at b bs read is beyond;
}

-- a comment with these bytes after its slashes
comment_word : (line : List ℕ) → IsComment (47 ∷ 47 ∷ take (prefix_len is_comment_byte line) line) (take (prefix_len is_comment_byte line) line)
comment_word line = record { begins = refl; goes_on = list_all-prefix_len is_comment_byte line }

-- after the bytes of a comment comes the end of its line, or a zero byte
line_end : (rest : List ℕ) → (0 < length rest → is_comment_byte (get_or rest 0 0) ≡ false) → (0 < length rest → get_or rest 0 0 ≢ 0) → IsLineEnd rest
line_end [] stops no_zero = tt
line_end (b ∷ bs) stops no_zero =
    let stop = stops (omega arith) in
    let other = no_zero (omega arith) in
    grind (arith, nat_tests)

after_front : (p : ℕ → Bool) (line : List ℕ) → 0 < length (drop (prefix_len p line) line) → p (get_or (drop (prefix_len p line) line) 0 0) ≡ false
after_front p line more =
    let short : prefix_len p line < length line = omega (arith, length-drop (prefix_len p line) line) in
    rw (get_or-drop (prefix_len p line) line 0 0, add-zero) (prefix_len_stops p line 0 short)

skips_comment : (line : List ℕ) → (prefix_len is_comment_byte line < length line → get_or line (prefix_len is_comment_byte line) 0 ≢ 0) → Skips (47 ∷ 47 ∷ line) (prefix_len is_comment_byte line + 2)
skips_comment line no_zero =
    let n : ℕ = prefix_len is_comment_byte line in
    let short : n ≤ length line = prefix_len-le-length is_comment_byte line in
    let two : n + 2 ≡ suc (suc n) = omega arith in
    let size : length (take n line) ≡ n = length-take-le n line short in
    let ends : IsLineEnd (drop n line) = line_end (drop n line) (after_front is_comment_byte line)
    (λ more. let below : n < length line = omega (arith, length-drop n line) in rw (get_or-drop n line 0 0, add-zero) (no_zero below)) in
    record {
      some = omega arith;
      within = omega arith;
      reads = λ at read beyond.
          let rest : Lexes (at + suc (suc (length (take n line)))) (drop n line) read = rw size (rw two at beyond) in
          comment at (47 ∷ 47 ∷ line) (47 ∷ 47 ∷ take n line) (take n line) (drop n line) read
          (ap (λ (bs : List ℕ). 47 ∷ 47 ∷ bs) (sym (take-append-drop n line))) (comment_word line) ends rest;
    }

pub comment_first : (line : List ℕ) (n : ℕ) → n ≡ prefix_len is_comment_byte line → (n < length line → get_or line n 0 ≢ 0) → Skips (47 ∷ 47 ∷ line) (n + 2)
comment_first line n is no_zero = rw is (skips_comment line (rw is at no_zero))

pub zero_in_line : (line : List ℕ) (n : ℕ) → n ≡ prefix_len is_comment_byte line → n < length line → get_or line n 0 ≡ 0 → (at : ℕ) → Lexes at (47 ∷ 47 ∷ line) (Err ZeroByte)
zero_in_line line n is within zero at =
    let cut : line ≡ take n line ++ 0 ∷ drop (n + 1) line =
    sym (take-append-drop n line) ∙ ap (λ (bs : List ℕ). take n line ++ bs) (drop-cons line n 0 within ∙ rw (zero, add-one) refl) in
    zero_in_comment at (47 ∷ 47 ∷ line) (47 ∷ 47 ∷ take n line) (take n line) (drop (n + 1) line)
    (ap (λ (bs : List ℕ). 47 ∷ 47 ∷ bs) cut) (rw is (comment_word line))

pub token_first : (kind : TokenKind) (bytes : List ℕ) (n : ℕ) → 0 < n → n ≤ length bytes → IsToken kind (take n bytes) (drop n bytes) → Takes kind bytes n
token_first kind bytes n some within is = record {
  some = some;
  within = within;
  reads = λ at read beyond.
      token at kind bytes (take n bytes) (drop n bytes) read _ (sym (take-append-drop n bytes)) is (rw (length-take-le n bytes within) beyond) refl;
}

pub bad_first : (bytes : List ℕ) → 0 < length bytes → get_or bytes 0 0 ≢ 0 → is_blank (get_or bytes 0 0) ≡ false → BeginsNoToken bytes → (at : ℕ) → Lexes at bytes (Err (BadByte at))
bad_first [] some no_zero no_blank none at = absurd (omega arith)
bad_first (b ∷ bs) some no_zero no_blank none at = bad_byte at b bs no_zero no_blank none

-- a name, a number and a symbol at the front
some_pass : (p : ℕ → Bool) (bytes : List ℕ) → 0 < length bytes → p (get_or bytes 0 0) ≡ true → 0 < prefix_len p bytes
some_pass p [] some first = absurd (omega arith)
some_pass p (b ∷ bs) some first = rw first (omega arith)

pub name_first : (bytes : List ℕ) (n : ℕ) → 0 < length bytes → n ≡ prefix_len is_name_part bytes → is_name_start (get_or bytes 0 0) ≡ true → Takes Name bytes n
name_first bytes n some is start =
    rw is (token_first Name bytes (prefix_len is_name_part bytes)
    (some_pass is_name_part bytes some (start_is_part (get_or bytes 0 0) start))
    (prefix_len-le-length is_name_part bytes) (name_is_token bytes start))

pub number_first : (bytes : List ℕ) (n : ℕ) → 0 < length bytes → n ≡ prefix_len is_ascii_digit bytes → is_ascii_digit (get_or bytes 0 0) ≡ true → Takes Number bytes n
number_first bytes n some is start =
    rw is (token_first Number bytes (prefix_len is_ascii_digit bytes)
    (some_pass is_ascii_digit bytes some start)
    (prefix_len-le-length is_ascii_digit bytes) (number_is_token bytes start))

pub symbol_first : (bytes : List ℕ) (symbol : Symbol) (n : ℕ) → n ≡ length (spelling symbol) → is_name_start (get_or bytes 0 0) ≡ false → is_ascii_digit (get_or bytes 0 0) ≡ false → (BeginsComment bytes → ⊥) → IsLongestSymbol bytes symbol → Takes (A_Symbol symbol) bytes n
symbol_first bytes symbol n is no_name no_number no_comment stands =
    let short : length (spelling symbol) ≤ length bytes =
    omega (arith, simp length-append at (ap length stands.stands)) in
    rw is (token_first (A_Symbol symbol) bytes (length (spelling symbol)) (0<length-spelling symbol) short
    (symbol_is_token bytes symbol no_name no_number (λ line e. no_comment (line, e)) stands))
