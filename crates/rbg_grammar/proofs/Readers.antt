-- When a function reads a phrase: what it gives is such a phrase, and each such phrase is given.
use Rattle.rbg_base.proofs.Common.{is_some, ◌≡◌, ◌≤◌, ◌+◌, ℕ, List, [], ◌∷◌, length, Bool, true, false, cond, Option, Some, None, Result, Ok, Err, refl, sym, ap, subst, arith, bytes_eq, bytes_eq-Decides}
use denote.Enum.Bare.{same_true, true_same}
use Rattle.rbg_base.specs.Decimals.{number_of_digits}
use Rattle.rbg_macro.proofs.TextCommon.{Lexeme, is_name_kind, is_number_kind, is_symbol}
use Rattle.rbg_macro.specs.contracts.token.Symbol.{the_type}
use Rattle.rbg_macro.specs.declared.token.Symbol.{Symbol}
use Rattle.rbg_macro.specs.declared.token.TokenKind.{TokenKind}
use Rattle.rbg_macro.specs.declared.token.TokenKind.TheVariants as kinds
use Rattle.rbg_grammar.proofs.Common.{SpeltName, SpeltNumber, IsSymbol, symbol, IsName, name, IsNumber, number, IsWord, word, IsOneOf, one_of, Fault, misfit, Reading, ◌>>=◌, next_is, token_at, symbol_at, name_at, number_at, word_at, is_in, or_misfit, one_of_at}

pub bind_ok : {A B : Type 0} (r : Result A Fault) (f : A → Result B Fault) (y : B) → (r >>= f) ≡ Ok y → (x : A) × (r ≡ Ok x) × (f x ≡ Ok y)
bind_ok (Ok x) f y e = (x, refl, e)
bind_ok (Err d) f y e = cc

-- Each phrase has at least this many tokens, and is read if what follows may follow.
pub record IsReadBy {A : Type 0} (least : ℕ) (P : List Lexeme → A → List Lexeme → Type 0) (Follow : List Lexeme → Type 0) (read : List Lexeme → Reading A) : Type 0 where
  pub sound : (ts : List Lexeme) (x : A) (rest : List Lexeme) → read ts ≡ Ok (x, rest) → P ts x rest
  pub complete : (ts : List Lexeme) (x : A) (rest : List Lexeme) → P ts x rest → Follow rest → read ts ≡ Ok (x, rest)
  pub shorter : (ts : List Lexeme) (x : A) (rest : List Lexeme) → P ts x rest → least + length rest ≤ length ts

abbrev pub Always : List Lexeme → Type 0
Always ts = Unit {0}

pub chosen_ok : {A : Type 0} (b : Bool) (x y : A) (f : Fault) → cond {A = Result A Fault} b (Ok x) (Err f) ≡ Ok y → (b ≡ true) × (x ≡ y)
chosen_ok true x y f e = (refl, cc)
chosen_ok false x y f e = cc

-- the front token of what token_at gives
token_at_ok : (test : TokenKind → Bool) (ts : List Lexeme) (t : Lexeme) (rest : List Lexeme) → token_at test ts ≡ Ok (t, rest) → (ts ≡ t ∷ rest) × (test t.kind ≡ true)
token_at_ok test [] t rest e = cc
token_at_ok test (u ∷ us) t rest e =
    let p = chosen_ok {A = Lexeme × List Lexeme} (test u.kind) (u, us) (t, rest) (misfit (Some u.at)) e in
    (ap (λ (q : Lexeme × List Lexeme). q.0 ∷ q.1) p.1, subst (λ (q : Lexeme × List Lexeme). test q.0.kind ≡ true) p.1 p.0)

pub kind_of-is_name : (k : TokenKind) → is_name_kind k ≡ true → k ≡ kinds.Name
kind_of-is_name kinds.Name e = refl
kind_of-is_name kinds.Number e = cc
kind_of-is_name (kinds.Symbol s) e = cc

pub kind_of-is_number : (k : TokenKind) → is_number_kind k ≡ true → k ≡ kinds.Number
kind_of-is_number kinds.Name e = cc
kind_of-is_number kinds.Number e = refl
kind_of-is_number (kinds.Symbol s) e = cc

pub kind_of-is_symbol : (s : Symbol) (k : TokenKind) → is_symbol s k ≡ true → k ≡ kinds.Symbol s
kind_of-is_symbol s kinds.Name e = cc
kind_of-is_symbol s kinds.Number e = cc
kind_of-is_symbol s (kinds.Symbol x) e = ap kinds.Symbol (same_true the_type tt x s e)

pub ok_one : {A : Type 0} (x y : A) → ◌≡◌ {A = Result A Fault} (Ok x) (Ok y) → x ≡ y
ok_one x y e = cc

-- a phrase of one token, by its kind
data OneToken {A : Type 0} (test : TokenKind → Bool) (make : Lexeme → A) : List Lexeme → A → List Lexeme → Type 0 where
  one_token : {t : Lexeme} {rest : List Lexeme} → test t.kind ≡ true → OneToken test make (t ∷ rest) (make t) rest

module _ {A : Type 0} (P : List Lexeme → A → List Lexeme → Type 0) (test : TokenKind → Bool) (make : Lexeme → A)
    (spells : (t : Lexeme) (rest : List Lexeme) → test t.kind ≡ true → P (t ∷ rest) (make t) rest)
    (part : (ts : List Lexeme) (x : A) (rest : List Lexeme) → P ts x rest → OneToken test make ts x rest) where
  abbrev one_at : List Lexeme → Reading A
  one_at ts = token_at test ts >>= λ t. Ok (make t.0, t.1)

  one_sound : (ts : List Lexeme) (x : A) (rest : List Lexeme) → one_at ts ≡ Ok (x, rest) → P ts x rest
  one_sound ts x rest e =
      let (t, taken, given) = bind_ok (token_at test ts) (λ (t : Lexeme × List Lexeme). Ok (make t.0, t.1)) (x, rest) e in
      let (here, is) = token_at_ok test ts t.0 t.1 taken in
      subst (λ (q : A × List Lexeme). P ts q.0 q.1) (ok_one (make t.0, t.1) (x, rest) given) (subst (λ us. P us (make t.0) t.1) (sym here) (spells t.0 t.1 is))

  one_complete : {ts rest : List Lexeme} {x : A} → OneToken test make ts x rest → one_at ts ≡ Ok (x, rest)
  one_complete (one_token is) = rw is

  one_shorter : {ts rest : List Lexeme} {x : A} → OneToken test make ts x rest → 1 + length rest ≤ length ts
  one_shorter (one_token is) = omega arith

  token_read : IsReadBy 1 P Always one_at
  token_read = record { sound = one_sound; complete = λ ts x rest d stop. one_complete (part ts x rest d); shorter = λ ts x rest d. one_shorter (part ts x rest d) }

symbol_part : (s : Symbol) (ts : List Lexeme) (at : ℕ) (rest : List Lexeme) → IsSymbol s ts at rest → OneToken (is_symbol s) (λ t. t.at) ts at rest
symbol_part s ts _ rest (symbol k) = one_token (rw k (true_same the_type s s refl))

pub symbol_read : (s : Symbol) → IsReadBy 1 (IsSymbol s) Always (symbol_at s)
unfolding symbol_at
symbol_read s = token_read (IsSymbol s) (is_symbol s) (λ t. t.at) (λ t rest is. symbol (kind_of-is_symbol s t.kind is)) (symbol_part s)

name_part : (ts : List Lexeme) (n : SpeltName) (rest : List Lexeme) → IsName ts n rest → OneToken is_name_kind (λ t. record { text = t.text; at = t.at }) ts n rest
name_part ts _ rest (name k) = one_token (rw k refl)

pub name_read : IsReadBy 1 IsName Always name_at
unfolding name_at
name_read = token_read IsName is_name_kind (λ t. record { text = t.text; at = t.at }) (λ t rest is. name (kind_of-is_name t.kind is)) name_part

number_part : (ts : List Lexeme) (n : SpeltNumber) (rest : List Lexeme) → IsNumber ts n rest → OneToken is_number_kind (λ t. record { value = number_of_digits t.text; at = t.at }) ts n rest
number_part ts _ rest (number k) = one_token (rw k refl)

pub number_read : IsReadBy 1 IsNumber Always number_at
unfolding number_at
number_read = token_read IsNumber is_number_kind (λ t. record { value = number_of_digits t.text; at = t.at }) (λ t rest is. number (kind_of-is_number t.kind is)) number_part

word_sound : (text : List ℕ) (ts : List Lexeme) (at : ℕ) (rest : List Lexeme) → word_at text ts ≡ Ok (at, rest) → IsWord text ts at rest
unfolding word_at
word_sound text ts at rest e =
    let (t, taken, given) = bind_ok (token_at is_name_kind ts) (λ (t : Lexeme × List Lexeme). cond {A = Reading ℕ} (bytes_eq t.0.text text) (Ok (t.0.at, t.1)) (Err (misfit (Some t.0.at)))) (at, rest) e in
    let (here, is) = token_at_ok is_name_kind ts t.0 t.1 taken in
    let (same, given) = chosen_ok {A = ℕ × List Lexeme} (bytes_eq t.0.text text) (t.0.at, t.1) (at, rest) (misfit (Some t.0.at)) given in
    let k : IsWord text (t.0 ∷ t.1) t.0.at t.1 = word (kind_of-is_name t.0.kind is) ((bytes_eq-Decides t.0.text text).0 same) in
    subst (λ (q : ℕ × List Lexeme). IsWord text ts q.0 q.1) given (subst (λ us. IsWord text us t.0.at t.1) (sym here) k)

pub word_complete : {text : List ℕ} {ts rest : List Lexeme} {at : ℕ} → IsWord text ts at rest → word_at text ts ≡ Ok (at, rest)
unfolding word_at
word_complete {text} (word k same) = rw (k, same, (bytes_eq-Decides text text).1 refl)

word_shorter : {text : List ℕ} {ts rest : List Lexeme} {at : ℕ} → IsWord text ts at rest → 1 + length rest ≤ length ts
word_shorter (word k same) = omega arith

pub word_read : (text : List ℕ) → IsReadBy 1 (IsWord text) Always (word_at text)
word_read text = record { sound = word_sound text; complete = λ ts x rest d f. word_complete d; shorter = λ ts x rest d. word_shorter d }

module _ {A : Type 0} (table : TokenKind → Option A) where
  one_of_sound : (ts : List Lexeme) (x : A) (rest : List Lexeme) → one_of_at table ts ≡ Ok (x, rest) → IsOneOf table ts x rest
  unfolding one_of_at
  one_of_sound [] x rest e = cc
  one_of_sound (t ∷ ts) x rest e = go (table t.kind) refl e
    where
      go : (o : Option A) → table t.kind ≡ o → or_misfit o (t, ts) ≡ Ok (x, rest) → IsOneOf table (t ∷ ts) x rest
      go (Some y) is e = subst (λ (q : A × List Lexeme). IsOneOf table (t ∷ ts) q.0 q.1) (ok_one (y, ts) (x, rest) e) (one_of is)
      go None is e = cc

  pub one_of_complete : {ts rest : List Lexeme} {x : A} → IsOneOf table ts x rest → one_of_at table ts ≡ Ok (x, rest)
  unfolding one_of_at
  one_of_complete (one_of k) = rw k

  one_of_shorter : {ts rest : List Lexeme} {x : A} → IsOneOf table ts x rest → 1 + length rest ≤ length ts
  one_of_shorter (one_of k) = omega arith

  pub one_of_read : IsReadBy 1 (IsOneOf table) Always (one_of_at table)
  one_of_read = record { sound = one_of_sound; complete = λ ts x rest d f. one_of_complete d; shorter = λ ts x rest d. one_of_shorter d }

  -- what a test returns for its token
  pub one_of_next : {ts rest : List Lexeme} {x : A} → IsOneOf table ts x rest → next_is (is_in table) ts ≡ true
  one_of_next (one_of k) = rw k

  pub one_of_test : (test : TokenKind → Bool) (b : Bool) → ((k : TokenKind) → is_in table k ≡ true → test k ≡ b) → {ts rest : List Lexeme} {x : A} → IsOneOf table ts x rest → next_is test ts ≡ b
  one_of_test test b all (one_of {t = t} k) = all t.kind (ap is_some k)

symbol_next_at : {s : Symbol} {ts rest : List Lexeme} {at : ℕ} → IsSymbol s ts at rest → next_is (is_symbol s) ts ≡ true
symbol_next_at {s} (symbol k) = rw (k, true_same the_type s s refl)

pub symbol_next : (s : Symbol) (ts : List Lexeme) (at : ℕ) (rest : List Lexeme) → IsSymbol s ts at rest → next_is (is_symbol s) ts ≡ true
symbol_next s ts at rest d = symbol_next_at d

name_next_at : {ts rest : List Lexeme} {n : SpeltName} → IsName ts n rest → next_is is_name_kind ts ≡ true
name_next_at (name k) = rw k

pub name_next : (ts : List Lexeme) (n : SpeltName) (rest : List Lexeme) → IsName ts n rest → next_is is_name_kind ts ≡ true
name_next ts n rest d = name_next_at d

-- what any test returns if the next token is a symbol, or a name
pub next_test-symbol : (s : Symbol) (test : TokenKind → Bool) (ts : List Lexeme) → next_is (is_symbol s) ts ≡ true → next_is test ts ≡ test (kinds.Symbol s)
next_test-symbol s test [] e = cc
next_test-symbol s test (t ∷ ts) e = ap test (kind_of-is_symbol s t.kind e)

pub next_test-name : (test : TokenKind → Bool) (ts : List Lexeme) → next_is is_name_kind ts ≡ true → next_is test ts ≡ test kinds.Name
next_test-name test [] e = cc
next_test-name test (t ∷ ts) e = ap test (kind_of-is_name t.kind e)
