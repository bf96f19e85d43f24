-- What joining makes of texts that spell a token of their kind.
use Rattle.rbg_base.proofs.Common.{ℕ, ◌≡◌, ◌+◌, Bool, true, false, ◌&&◌, ◌||◌, cond, nat_le, List, [], ◌∷◌, ◌++◌, length, Option, None, Some, Result, Ok, Err, refl, subst, and_parts, list_all}
use Rattle.std.proofs.lemmas.List.Folds.{list_all-append}
use Rattle.std.specs.Char.{is_ascii_digit}
use Rattle.rbg_base.specs.Names.{is_name, is_name_start, is_name_part}
use Rattle.rbg_macro.proofs.Common.{MacroError, BadJoin, MAX_JOINED, joined_kind, joined_token, with_kind, beyond, join_at, joined_from, joined}
use Rattle.rbg_macro.specs.declared.token.TokenKind.{TokenKind}
use Rattle.rbg_macro.specs.declared.token.TokenKind.TheVariants.{Name, Number, Symbol as A_Symbol}
use Rattle.rbg_macro.proofs.TextCommon.{is_symbol, is_number, Spells, IsLexeme, Lexeme}
use Rattle.rbg_macro.specs.declared.token.Symbol.TheVariants as symbols
use Rattle.rbg_macro.proofs.Words.{name_parts, number_digits}
use Rattle.rbg_macro.proofs.SpeltTokens.{Spelt}

-- a digit is a part of a name
digits_are_parts : (bytes : List ℕ) → list_all is_ascii_digit bytes ≡ true → list_all is_name_part bytes ≡ true
digits_are_parts [] digits = refl
digits_are_parts (b ∷ bs) digits =
    let (first, others) = and_parts (is_ascii_digit b) (list_all is_ascii_digit bs) digits in
    rw (first, digits_are_parts bs others) (or_true (is_name_start b))
  where
    or_true : (start : Bool) → ((start || true) && true) ≡ true
    or_true true = refl
    or_true false = refl

longer_name : (word more : List ℕ) → is_name word ≡ true → list_all is_name_part more ≡ true → is_name (word ++ more) ≡ true
longer_name [] more name parts = cc
longer_name (b ∷ bs) more name parts =
    let (first, others) = and_parts (is_name_start b) (list_all is_name_part bs) name in
    rw (first, list_all-append is_name_part bs more, others, parts) refl

longer_number : (word more : List ℕ) → is_number word ≡ true → list_all is_ascii_digit more ≡ true → is_number (word ++ more) ≡ true
longer_number [] more number digits = cc
longer_number (b ∷ bs) more number digits =
    let (first, others) = and_parts (is_ascii_digit b) (list_all is_ascii_digit bs) number in
    rw (first, list_all-append is_ascii_digit bs more, others, digits) refl

spells_as : (kind made : TokenKind) (text : List ℕ) → kind ≡ made → Spells kind text → Spells made text
spells_as kind made text is spells = subst (λ (k : TokenKind). Spells k text) is spells

-- two texts that are joined spell a token of the kind that they make
joined_spells : (left right made : TokenKind) (word more : List ℕ) →
    joined_kind left right ≡ Some made → Spells left word → Spells right more → Spells made (word ++ more)
joined_spells Name Name made word more is first second =
    spells_as Name made _ (cc) (longer_name word more first (name_parts more second))
joined_spells Name Number made word more is first second =
    spells_as Name made _ (cc) (longer_name word more first (digits_are_parts more (number_digits more second)))
joined_spells Name (A_Symbol s) made word more is first second = cc
joined_spells Number Name made word more is first second = cc
joined_spells Number Number made word more is first second =
    spells_as Number made _ (cc) (longer_number word more first (number_digits more second))
joined_spells Number (A_Symbol s) made word more is first second = cc
joined_spells (A_Symbol s) right made word more is first second = cc

joined_token_spelt : (left right made : Lexeme) → joined_token left right ≡ Some made → IsLexeme left → IsLexeme right → IsLexeme made
joined_token_spelt left right made is first second = by_kind (joined_kind left.kind right.kind) refl is
  where
    by_kind : (kind : Option TokenKind) → joined_kind left.kind right.kind ≡ kind → with_kind left right kind ≡ Some made → IsLexeme made
    by_kind None kind_is made_is = cc
    by_kind (Some kind) kind_is made_is =
        by_len (nat_le (length left.text + length right.text) MAX_JOINED) made_is
        (joined_spells left.kind right.kind kind left.text right.text kind_is first second)
      where
        by_len : (fits : Bool) → cond fits (Some (record { kind = kind; text = left.text ++ right.text; at = left.at })) None ≡ Some made →
            Spells kind (left.text ++ right.text) → IsLexeme made
        by_len true made_is spells =
            let same : record { kind = kind; text = left.text ++ right.text; at = left.at } ≡ made = cc in
            subst IsLexeme same spells
        by_len false made_is spells = cc

-- a list that was joined from tokens that are spelt is of tokens that are spelt
joined_from_spelt : (t : Lexeme) (ts js : List Lexeme) → joined_from t ts ≡ Ok js → IsLexeme t → Spelt ts → Spelt js
joined_from_spelt t [] js is first others = let same : t ∷ [] ≡ js = cc in rw (← same) (first, tt)
joined_from_spelt t (s ∷ []) js is first others = by_tilde (is_symbol symbols.Tilde s.kind) is
  where
    by_tilde : (tilde : Bool) → cond tilde (Err (BadJoin s.at)) (Ok (t ∷ s ∷ [])) ≡ Ok js → Spelt js
    by_tilde true is = cc
    by_tilde false is = let same : t ∷ s ∷ [] ≡ js = cc in rw (← same) (first, (others.0, tt))
joined_from_spelt t (s ∷ u ∷ ts) js is first others =
    by_tilde (is_symbol symbols.Tilde s.kind) is (λ v v_spelt ks v_is. joined_from_spelt v ts ks v_is v_spelt others.1.1)
    (λ ks s_is. joined_from_spelt s (u ∷ ts) ks s_is others.0 others.1)
  where
    by_tilde : (tilde : Bool) → cond tilde (join_at s.at (joined_token t u) (λ v. joined_from v ts)) (beyond t (joined_from s (u ∷ ts))) ≡ Ok js →
        ((v : Lexeme) → IsLexeme v → (ks : List Lexeme) → joined_from v ts ≡ Ok ks → Spelt ks) →
        ((ks : List Lexeme) → joined_from s (u ∷ ts) ≡ Ok ks → Spelt ks) → Spelt js
    by_tilde true is going_on staying = by_token (joined_token t u) refl is
      where
        by_token : (made : Option Lexeme) → joined_token t u ≡ made → join_at s.at made (λ v. joined_from v ts) ≡ Ok js → Spelt js
        by_token None made_is is = cc
        by_token (Some v) made_is is = going_on v (joined_token_spelt t u v made_is first others.1.0) js is
    by_tilde false is going_on staying = by_rest (joined_from s (u ∷ ts)) refl is
      where
        by_rest : (rest : Result (List Lexeme) MacroError) → joined_from s (u ∷ ts) ≡ rest → beyond t rest ≡ Ok js → Spelt js
        by_rest (Ok ks) rest_is is = let same : t ∷ ks ≡ js = cc in rw (← same) (first, staying ks rest_is)
        by_rest (Err e) rest_is is = cc

pub joined_spelt : (ts js : List Lexeme) → joined ts ≡ Ok js → Spelt ts → Spelt js
joined_spelt [] js is spelt = let same : [] ≡ js = cc in rw (← same) tt
joined_spelt (t ∷ ts) js is spelt = by_tilde (is_symbol symbols.Tilde t.kind) is
  where
    by_tilde : (tilde : Bool) → cond tilde (Err (BadJoin t.at)) (joined_from t ts) ≡ Ok js → Spelt js
    by_tilde true is = cc
    by_tilde false is = joined_from_spelt t ts js is spelt.0 spelt.1
