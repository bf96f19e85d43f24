-- A text with tokens has no zero byte.
use Rattle.rbg_base.proofs.Common.{ℕ, ◌≡◌, ◌≢◌, ◌==◌, ◌+◌, ◌∙◌, length, Bool, true, false, not, List, [], ◌∷◌, Result, Ok, Err, refl, sym, and_parts, All-nil, All-cons, All-append, All, list_all}
use Rattle.std.specs.Char.{is_ascii_digit}
use Rattle.rbg_macro.proofs.TextCommon.{TextError, Symbol, DoubleArrow, TokenKind, Lexes, end, blank, comment, token, zero_byte, zero_in_comment, bad_byte, after_token, is_comment_byte, IsComment, HasTokens, spelling, Spells, Lexeme}
use Rattle.rbg_macro.specs.declared.token.TokenKind.TheVariants.{Name, Number, Symbol as A_Symbol}
use Rattle.rbg_base.specs.Names.{is_name_part}
use Rattle.rbg_macro.proofs.Words.{name_parts, number_digits}

abbrev HasNoZero : List ℕ → Type 0
HasNoZero bytes = All (λ byte. byte ≢ 0) bytes

-- bytes that pass a test which zero doesn't pass
none_passes : (p : ℕ → Bool) → p 0 ≡ false → (bytes : List ℕ) → list_all p bytes ≡ true → HasNoZero bytes
none_passes p zero_fails [] all = All-nil (λ byte. byte ≢ 0)
none_passes p zero_fails (b ∷ bs) all =
    let (first, beyond) = and_parts (p b) (list_all p bs) all in
    All-cons (λ byte. byte ≢ 0) b bs (λ is_zero. cc) (none_passes p zero_fails bs beyond)

spelling_bytes : (s : Symbol) → list_all (λ byte. not (byte == 0)) (spelling s) ≡ true
spelling_bytes DoubleArrow = refl
spelling_bytes _ = refl

word_has_none : (kind : TokenKind) (word : List ℕ) → Spells kind word → HasNoZero word
word_has_none Name word spelt = none_passes is_name_part refl word (name_parts word spelt)
word_has_none Number word spelt = none_passes is_ascii_digit refl word (number_digits word spelt)
word_has_none (A_Symbol s) word spelt = rw spelt (none_passes (λ byte. not (byte == 0)) refl (spelling s) (spelling_bytes s))

comment_has_none : (word line : List ℕ) → IsComment word line → HasNoZero word
comment_has_none word line is =
    rw is.begins (All-append (λ byte. byte ≢ 0) (47 ∷ 47 ∷ []) line
    (none_passes (λ byte. not (byte == 0)) refl (47 ∷ 47 ∷ []) refl)
    (none_passes is_comment_byte refl line is.goes_on))

-- if there are tokens after one more is put before them, there were tokens
pub tokens_after : (t : Lexeme) (read : Result (List Lexeme) TextError) (ts : List Lexeme) → after_token t read ≡ Ok ts → (us : List Lexeme) × (read ≡ Ok us)
tokens_after t (Ok us) ts is = (us, refl)
tokens_after t (Err e) ts is = cc

bytes_have_none : (at : ℕ) (bytes : List ℕ) (read : Result (List Lexeme) TextError) → Lexes at bytes read → (ts : List Lexeme) → read ≡ Ok ts → HasNoZero bytes
bytes_have_none _ _ _ (end at) ts is = All-nil (λ byte. byte ≢ 0)
bytes_have_none _ _ _ (blank at b rest read is_blank beyond) ts is =
    All-cons (λ byte. byte ≢ 0) b rest (λ is_zero. cc) (bytes_have_none (at + 1) rest read beyond ts is)
bytes_have_none _ _ _ (comment at bytes word line rest read begins is_comment ends beyond) ts is =
    rw begins (All-append (λ byte. byte ≢ 0) word rest (comment_has_none word line is_comment) (bytes_have_none (at + length word) rest read beyond ts is))
bytes_have_none _ _ _ (token at kind bytes word rest read all begins is_token beyond gives) ts is =
    let (us, read_is) = tokens_after (record { kind = kind; text = word; at = at }) read ts (sym gives ∙ is) in
    rw begins (All-append (λ byte. byte ≢ 0) word rest (word_has_none kind word is_token.spelt) (bytes_have_none (at + length word) rest read beyond us read_is))
bytes_have_none _ _ _ (zero_byte at rest) ts is = cc
bytes_have_none _ _ _ (zero_in_comment at bytes word line rest begins is_comment) ts is = cc
bytes_have_none _ _ _ (bad_byte at b rest not_zero not_blank no_token) ts is = cc

pub text_has_no_zero_byte : (text : List ℕ) (ts : List Lexeme) → HasTokens text ts → All (λ byte. byte ≢ 0) text
text_has_no_zero_byte text ts has = bytes_have_none 0 text (Ok ts) has.read ts refl
