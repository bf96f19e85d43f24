-- Texts that spell a token of their kind.
use Rattle.rbg_base.proofs.Common.{ℕ, ◌≡◌, ◌+◌, true, List, [], ◌∷◌, length, Some, Result, Ok, refl, sym, ◌∙◌, ap, subst, arith, zero, suc, slice_get, All-nil, All-cons, All, AllByRecursion}
use Rattle.rbg_base.specs.Names.{is_name}
use Rattle.rbg_macro.proofs.TextCommon.{TextError, TokenKind, is_number, Spells, IsLexeme, Lexes, end, blank, comment, token, zero_byte, zero_in_comment, bad_byte, after_token, HasTokens, Lexeme}
use Rattle.rbg_macro.specs.declared.token.TokenKind.TheVariants.{Name, Number, Symbol as A_Symbol}
use Rattle.rbg_macro.proofs.ZeroBytes.{tokens_after}

-- each token's text spells a token of its kind
abbrev pub Spelt : List Lexeme → Type 0
Spelt ts = AllByRecursion IsLexeme ts

-- the tokens of a text are spelt
read_spelt : (at : ℕ) (bytes : List ℕ) (read : Result (List Lexeme) TextError) → Lexes at bytes read → (ts : List Lexeme) → read ≡ Ok ts → Spelt ts
read_spelt _ _ _ (end at) ts is = let same : [] ≡ ts = cc in rw (← same) tt
read_spelt _ _ _ (blank at b rest read is_blank others) ts is = read_spelt (at + 1) rest read others ts is
read_spelt _ _ _ (comment at bytes word line rest read begins is_comment ends others) ts is = read_spelt (at + length word) rest read others ts is
read_spelt _ _ _ (token at kind bytes word rest read all begins is_token others gives) ts is =
    let t : Lexeme = record { kind = kind; text = word; at = at } in
    let (us, read_is) = tokens_after t read ts (sym gives ∙ is) in
    let whole : Ok (t ∷ us) ≡ Ok ts = ap (after_token t) (sym read_is) ∙ sym gives ∙ is in
    let same : t ∷ us ≡ ts = cc (whole) in
    rw (← same) (is_token.spelt, read_spelt (at + length word) rest read others us read_is)
read_spelt _ _ _ (zero_byte at rest) ts is = cc
read_spelt _ _ _ (zero_in_comment at bytes word line rest begins is_comment) ts is = cc
read_spelt _ _ _ (bad_byte at b rest not_zero not_blank no_token) ts is = cc

pub tokens_spelt : (text : List ℕ) (ts : List Lexeme) → HasTokens text ts → Spelt ts
tokens_spelt text ts has = read_spelt 0 text (Ok ts) has.read ts refl

-- each element, by its index and by recursion
pub by_recursion : {X : Type 0} (P : X → Type 0) (xs : List X) → All P xs → AllByRecursion P xs
by_recursion P [] all = tt
by_recursion P (x ∷ xs) all = (all 0 x (omega arith), by_recursion P xs (λ k d below. all (suc k) d (omega arith)))

pub each : {X : Type 0} (P : X → Type 0) (xs : List X) → AllByRecursion P xs → All P xs
each P [] all = All-nil P
each P (x ∷ xs) all = All-cons P x xs all.0 (each P xs all.1)

pub tokens_are_lexemes : (text : List ℕ) (ts : List Lexeme) → HasTokens text ts → All IsLexeme ts
tokens_are_lexemes text ts has = each IsLexeme ts (tokens_spelt text ts has)

-- a token that is found among tokens that are spelt
found_spelt : (ts : List Lexeme) (i : ℕ) (t : Lexeme) → Spelt ts → slice_get ts i ≡ Some t → IsLexeme t
found_spelt [] i t spelt found = cc
found_spelt (u ∷ ts) zero t spelt found = let same : u ≡ t = cc in subst IsLexeme same spelt.0
found_spelt (u ∷ ts) (suc i) t spelt found = found_spelt ts i t spelt.1 found

name_spelt : (kind : TokenKind) (text : List ℕ) → Spells kind text → kind ≡ Name → is_name text ≡ true
name_spelt Name text spells is = spells
name_spelt Number text spells is = cc
name_spelt (A_Symbol s) text spells is = cc

number_spelt : (kind : TokenKind) (text : List ℕ) → Spells kind text → kind ≡ Number → is_number text ≡ true
number_spelt Name text spells is = cc
number_spelt Number text spells is = spells
number_spelt (A_Symbol s) text spells is = cc

pub found_name : (ts : List Lexeme) (i : ℕ) (t : Lexeme) → All IsLexeme ts → slice_get ts i ≡ Some t → t.kind ≡ Name → is_name t.text ≡ true
found_name ts i t all found is = name_spelt t.kind t.text (found_spelt ts i t (by_recursion IsLexeme ts all) found) is

pub found_number : (ts : List Lexeme) (i : ℕ) (t : Lexeme) → All IsLexeme ts → slice_get ts i ≡ Some t → t.kind ≡ Number → is_number t.text ≡ true
found_number ts i t all found is = number_spelt t.kind t.text (found_spelt ts i t (by_recursion IsLexeme ts all) found) is
