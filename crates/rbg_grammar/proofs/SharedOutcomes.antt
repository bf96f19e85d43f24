-- What one more bracket makes of readings that are put together of others.
use Rattle.std.proofs.Common.{◌≡◌, ◌+◌, ℕ, zero, suc, List, [], ◌∷◌, length, Bool, true, false, cond, Option, Some, None, Result, Ok, Err, refl, sym, ap, ◌∙◌, subst}
use Rattle.rbg_macro.proofs.TextCommon.{Lexeme, opens, closes, is_name_kind, is_number_kind, is_symbol}
use Rattle.rbg_macro.specs.declared.token.Symbol.{Symbol}
use Rattle.rbg_macro.specs.declared.token.Symbol.TheVariants.{Comma, OpenParenthesis, CloseParenthesis, OpenBracket, CloseBracket, OpenBrace, CloseBrace}
use Rattle.rbg_macro.specs.declared.token.TokenKind.{TokenKind}
use Rattle.rbg_macro.specs.declared.token.TokenKind.TheVariants as kinds
use Rattle.rbg_base.specs.Decimals.{number_of_digits}
use Rattle.rbg_grammar.specs.Phrase.{IsSymbol, IsName, name, IsNumber, number, IsOneOf, one_of, Repeated, done, again as more_of, After, after, Separated, separated, Listed, nothing, listed}
use Rattle.rbg_grammar.proofs.Common.{SpeltName, SpeltNumber, Fault, misfit, too_deep, Reading, ◌>>=◌, next_is, token_at, symbol_at, name_at, number_at, or_misfit, one_of_at, repeated_within, repeated_at, after_at, separated_at, listed_at}
use Rattle.rbg_grammar.proofs.Nesting.{passed, plain_fits}
use Rattle.rbg_grammar.proofs.Pieces.{Piece, Sample, Outcome, bind, seen_piece, seen_deep, pieces, second_deep, first_deep, symbol_piece, within_piece, within_deep}
use Rattle.rbg_grammar.proofs.Readers.{symbol_read, name_read, number_read}

-- a reading that is the same with one more bracket, and then another
pub bind_same : {A C : Type 0} (R : List Lexeme → C → List Lexeme → Type 0) (n : ℕ) (ts : List Lexeme) (r : Reading A) (next next' : A × List Lexeme → Reading C)
    → ((x : A) (rest : List Lexeme) → r ≡ Ok (x, rest) → Outcome R n ts (next (x, rest)) (next' (x, rest))) → ((at : ℕ) → r ≡ Err (too_deep at) → ⊥) → Outcome R n ts (r >>= next) (r >>= next')
bind_same R n ts (Ok q) next next' more never = more q.0 q.1 refl
bind_same R n ts (Err (misfit place)) next next' more never = refl
bind_same R n ts (Err (too_deep at)) next next' more never = absurd (never at refl)

-- a phrase seen as another one, with another value
pub map_outcome : {A C : Type 0} (P : List Lexeme → A → List Lexeme → Type 0) (R : List Lexeme → C → List Lexeme → Type 0) (f : A → C) (n : ℕ)
    → ((ts : List Lexeme) (x : A) (rest : List Lexeme) → P ts x rest → R ts (f x) rest) → (ts : List Lexeme) (r r' : Reading A) → Outcome P n ts r r'
    → Outcome R n ts (r >>= λ q. Ok (f q.0, q.1)) (r' >>= λ q. Ok (f q.0, q.1))
map_outcome P R f n see ts (Ok q) r' o = (ap (λ u. u >>= λ q. Ok (f q.0, q.1)) o.0, seen_piece P R f n see ts q.0 q.1 o.1)
map_outcome P R f n see ts (Err (misfit place)) r' o = ap (λ u. u >>= λ q. Ok (f q.0, q.1)) o
map_outcome P R f n see ts (Err (too_deep at)) r' o = seen_deep P R f n at see ts o

pub seen_outcome : {A : Type 0} (P R : List Lexeme → A → List Lexeme → Type 0) (n : ℕ)
    → ((ts : List Lexeme) (x : A) (rest : List Lexeme) → P ts x rest → R ts x rest) → (ts : List Lexeme) (r r' : Reading A) → Outcome P n ts r r' → Outcome R n ts r r'
seen_outcome {A} P R n see ts (Ok q) r' o = (o.0, seen_piece P R (λ (x : A). x) n see ts q.0 q.1 o.1)
seen_outcome P R n see ts (Err (misfit place)) r' o = o
seen_outcome {A} P R n see ts (Err (too_deep at)) r' o = seen_deep P R (λ (x : A). x) n at see ts o

-- one phrase or another, by a test
pub either_outcome : {A : Type 0} (P Q R : List Lexeme → A → List Lexeme → Type 0) (n : ℕ)
    → ((ts : List Lexeme) (x : A) (rest : List Lexeme) → P ts x rest → R ts x rest) → ((ts : List Lexeme) (x : A) (rest : List Lexeme) → Q ts x rest → R ts x rest)
    → (ts : List Lexeme) (test : Bool) (p p' q q' : Reading A) → Outcome P n ts p p' → Outcome Q n ts q q' → Outcome R n ts (cond test p q) (cond test p' q')
either_outcome P Q R n one other ts true p p' q q' first second = seen_outcome P R n one ts p p' first
either_outcome P Q R n one other ts false p p' q q' first second = seen_outcome Q R n other ts q q' second

-- a second reading, after a phrase
module _ {A B C : Type 0} (P : List Lexeme → A → List Lexeme → Type 0) (Q : List Lexeme → B → List Lexeme → Type 0) (R : List Lexeme → C → List Lexeme → Type 0) (f : A → B → C)
    (join : (ts : List Lexeme) (x : A) (mid : List Lexeme) (y : B) (rest : List Lexeme) → P ts x mid → Q mid y rest → R ts (f x y) rest) (n : ℕ) where
  pub later : (ts : List Lexeme) (x : A) (mid : List Lexeme) → Piece P n ts x mid → (r r' : Reading B) → Outcome Q n mid r r'
      → Outcome R n ts (r >>= λ q. Ok (f x q.0, q.1)) (r' >>= λ q. Ok (f x q.0, q.1))
  later ts x mid p (Ok q) r' o = (ap (λ u. u >>= λ q. Ok (f x q.0, q.1)) o.0, pieces P Q R f join n ts x mid q.0 q.1 p o.1)
  later ts x mid p (Err (misfit place)) r' o = ap (λ u. u >>= λ q. Ok (f x q.0, q.1)) o
  later ts x mid p (Err (too_deep at)) r' o = second_deep P Q R f join n ts x mid at p o

  -- two readings, if the second one may be of no tokens or of those of the sample
  pub both_outcome : Sample Q → (ts : List Lexeme) (r r' : Reading A) (next next' : List Lexeme → Reading B) → Outcome P n ts r r' → ((us : List Lexeme) → Outcome Q n us (next us) (next' us))
      → Outcome R n ts (r >>= λ q. next q.1 >>= λ s. Ok (f q.0 s.0, s.1)) (r' >>= λ q. next' q.1 >>= λ s. Ok (f q.0 s.0, s.1))
  both_outcome some ts r r' next next' o seconds =
      bind P R n ts ts r r' (λ q. next q.1 >>= λ s. Ok (f q.0 s.0, s.1)) (λ q. next' q.1 >>= λ s. Ok (f q.0 s.0, s.1)) o
      (λ q p. later ts q.0 q.1 p (next q.1) (next' q.1) (seconds q.1)) (λ at d. first_deep P Q R f join n ts at d some)

-- the same, if the second value is that of both
later_alone : {A B : Type 0} (P : List Lexeme → A → List Lexeme → Type 0) (Q R : List Lexeme → B → List Lexeme → Type 0)
    (join : (ts : List Lexeme) (x : A) (mid : List Lexeme) (y : B) (rest : List Lexeme) → P ts x mid → Q mid y rest → R ts y rest) (n : ℕ)
    (ts : List Lexeme) (x : A) (mid : List Lexeme) → Piece P n ts x mid → (r r' : Reading B) → Outcome Q n mid r r' → Outcome R n ts r r'
later_alone {A} {B} P Q R join n ts x mid p (Ok q) r' o = (o.0, pieces P Q R (λ (x : A) (y : B). y) join n ts x mid q.0 q.1 p o.1)
later_alone P Q R join n ts x mid p (Err (misfit place)) r' o = o
later_alone {A} {B} P Q R join n ts x mid p (Err (too_deep at)) r' o = second_deep P Q R (λ (x : A) (y : B). y) join n ts x mid at p o

-- single tokens
never_chosen : {A : Type 0} (b : Bool) (x : A) (place : Option ℕ) (at : ℕ) → cond {A = Result A Fault} b (Ok x) (Err (misfit place)) ≡ Err (too_deep at) → ⊥
never_chosen true x place at e = cc
never_chosen false x place at e = cc

never_bound : {A C : Type 0} (r : Result A Fault) (f : A → C) (at : ℕ) → (r ≡ Err (too_deep at) → ⊥) → (r >>= λ x. Ok (f x)) ≡ Err (too_deep at) → ⊥
never_bound (Ok x) f at never e = cc
never_bound (Err d) f at never e = let same : d ≡ too_deep at = cc in never (ap (λ (g : Fault). Err g) same)

token_never : (test : TokenKind → Bool) (ts : List Lexeme) (at : ℕ) → token_at test ts ≡ Err (too_deep at) → ⊥
token_never test [] at e = cc
token_never test (t ∷ ts) at e = never_chosen (test t.kind) (t, ts) (Some t.at) at e

pub symbol_never : (s : Symbol) (ts : List Lexeme) (at : ℕ) → symbol_at s ts ≡ Err (too_deep at) → ⊥
unfolding symbol_at
symbol_never s ts at e = never_bound (token_at (is_symbol s) ts) (λ (t : Lexeme × List Lexeme). (t.0.at, t.1)) at (token_never (is_symbol s) ts at) e

pub name_never : (ts : List Lexeme) (at : ℕ) → name_at ts ≡ Err (too_deep at) → ⊥
unfolding name_at
name_never ts at e = never_bound (token_at is_name_kind ts) (λ (t : Lexeme × List Lexeme). (record { text = t.0.text; at = t.0.at }, t.1)) at (token_never is_name_kind ts at) e

pub number_never : (ts : List Lexeme) (at : ℕ) → number_at ts ≡ Err (too_deep at) → ⊥
unfolding number_at
number_never ts at e = never_bound (token_at is_number_kind ts) (λ (t : Lexeme × List Lexeme). (record { value = number_of_digits t.0.text; at = t.0.at }, t.1)) at (token_never is_number_kind ts at) e

token_piece : {A : Type 0} (P : List Lexeme → A → List Lexeme → Type 0) (n : ℕ) (t : Lexeme) (rest : List Lexeme) (x : A) → opens t.kind ≡ false → closes t.kind ≡ false → ((tail : List Lexeme) → P (t ∷ tail) x tail) → Piece P n (t ∷ rest) x rest
token_piece P n t rest x no_opening no_closing again = record {
  used = t ∷ [];
  whole = refl;
  again = again;
  balanced = λ j. passed j t.kind no_opening no_closing;
  fits = λ j. plain_fits (j + n) j t no_opening;
}

pub name_piece : (n : ℕ) {ts rest : List Lexeme} {x : SpeltName} → IsName ts x rest → Piece IsName n ts x rest
name_piece n (name {t = t} k) = token_piece IsName n t _ _ (ap opens k) (ap closes k) (λ tail. name k)

pub number_piece : (n : ℕ) {ts rest : List Lexeme} {x : SpeltNumber} → IsNumber ts x rest → Piece IsNumber n ts x rest
number_piece n (number {t = t} k) = token_piece IsNumber n t _ _ (ap opens k) (ap closes k) (λ tail. number k)

-- tokens that are in a table are no brackets
pub no_bracket : {A : Type 0} (table : TokenKind → Option A)
    → table (kinds.Symbol OpenParenthesis) ≡ None → table (kinds.Symbol OpenBracket) ≡ None → table (kinds.Symbol OpenBrace) ≡ None
    → table (kinds.Symbol CloseParenthesis) ≡ None → table (kinds.Symbol CloseBracket) ≡ None → table (kinds.Symbol CloseBrace) ≡ None
    → (k : TokenKind) (x : A) → table k ≡ Some x → (opens k ≡ false) × (closes k ≡ false)
no_bracket table a b c d e f kinds.Name x is = (refl, refl)
no_bracket table a b c d e f kinds.Number x is = (refl, refl)
no_bracket table a b c d e f (kinds.Symbol OpenParenthesis) x is = let wrong : None ≡ Some x = sym a ∙ is in cc
no_bracket table a b c d e f (kinds.Symbol OpenBracket) x is = let wrong : None ≡ Some x = sym b ∙ is in cc
no_bracket table a b c d e f (kinds.Symbol OpenBrace) x is = let wrong : None ≡ Some x = sym c ∙ is in cc
no_bracket table a b c d e f (kinds.Symbol CloseParenthesis) x is = let wrong : None ≡ Some x = sym d ∙ is in cc
no_bracket table a b c d e f (kinds.Symbol CloseBracket) x is = let wrong : None ≡ Some x = sym e ∙ is in cc
no_bracket table a b c d e f (kinds.Symbol CloseBrace) x is = let wrong : None ≡ Some x = sym f ∙ is in cc
no_bracket table a b c d e f (kinds.Symbol _) x is = (refl, refl)

module _ {A : Type 0} (table : TokenKind → Option A) where
  pub one_of_piece : ((k : TokenKind) (x : A) → table k ≡ Some x → (opens k ≡ false) × (closes k ≡ false)) → (n : ℕ) {ts rest : List Lexeme} {x : A} → IsOneOf table ts x rest → Piece (IsOneOf table) n ts x rest
  one_of_piece none n {x = x} (one_of {t = t} k) = let plain = none t.kind x k in token_piece (IsOneOf table) n t _ x plain.0 plain.1 (λ tail. one_of k)

  found_never : (o : Option A) (t : Lexeme × List Lexeme) (at : ℕ) → or_misfit o t ≡ Err (too_deep at) → ⊥
  found_never (Some x) t at e = cc
  found_never None t at e = cc

  pub one_of_never : (ts : List Lexeme) (at : ℕ) → one_of_at table ts ≡ Err (too_deep at) → ⊥
  unfolding one_of_at
  one_of_never [] at e = cc
  one_of_never (t ∷ ts) at e = found_never (table t.kind) (t, ts) at e

alone : {A : Type 0} (P : List Lexeme → A → List Lexeme → Type 0) (n : ℕ) (ts : List Lexeme) (r : Reading A)
    → ((x : A) (rest : List Lexeme) → r ≡ Ok (x, rest) → Piece P n ts x rest) → ((at : ℕ) → r ≡ Err (too_deep at) → ⊥) → Outcome P n ts r r
alone P n ts (Ok q) piece never = (refl, piece q.0 q.1 refl)
alone P n ts (Err (misfit place)) piece never = refl
alone P n ts (Err (too_deep at)) piece never = absurd (never at refl)

pub name_outcome : (n : ℕ) (ts : List Lexeme) → Outcome IsName n ts (name_at ts) (name_at ts)
name_outcome n ts = alone IsName n ts (name_at ts) (λ x rest e. name_piece n (name_read.sound ts x rest e)) (name_never ts)

pub number_outcome : (n : ℕ) (ts : List Lexeme) → Outcome IsNumber n ts (number_at ts) (number_at ts)
number_outcome n ts = alone IsNumber n ts (number_at ts) (λ x rest e. number_piece n (number_read.sound ts x rest e)) (number_never ts)

-- any number of phrases
empty_piece : {A : Type 0} (P : List Lexeme → A → List Lexeme → Type 0) (n : ℕ) (ts : List Lexeme) → Piece (Repeated P) n ts [] ts
empty_piece P n ts = record { used = []; whole = refl; again = λ tail. done; balanced = λ k. refl; fits = λ k. tt }

pub none_sample : {A : Type 0} (P : List Lexeme → A → List Lexeme → Type 0) → Sample (Repeated P)
none_sample P = record { tokens = []; value = []; spells = λ tail. done }

module _ {A : Type 0} (P : List Lexeme → A → List Lexeme → Type 0) (n : ℕ) (read read' : List Lexeme → Reading A) (reads : (ts : List Lexeme) → Outcome P n ts (read ts) (read' ts)) where
  turns : (test : TokenKind → Bool) (m : ℕ) (ts : List Lexeme) → Outcome (Repeated P) n ts (repeated_within m test read ts) (repeated_within m test read' ts)
  turns test zero ts = (refl, empty_piece P n ts)
  turns test (suc m) ts = turn (next_is test ts) (turns test m)
    where
      turn : (b : Bool) → ((us : List Lexeme) → Outcome (Repeated P) n us (repeated_within m test read us) (repeated_within m test read' us))
          → Outcome (Repeated P) n ts (cond {A = Reading (List A)} b (read ts >>= λ q. repeated_within m test read q.1 >>= λ s. Ok (q.0 ∷ s.0, s.1)) (Ok ([], ts)))
          (cond {A = Reading (List A)} b (read' ts >>= λ q. repeated_within m test read' q.1 >>= λ s. Ok (q.0 ∷ s.0, s.1)) (Ok ([], ts)))
      turn true rec = both_outcome P (Repeated P) (Repeated P) (λ (x : A) (xs : List A). x ∷ xs) (λ ts x mid xs rest d more. more_of d more) n (none_sample P) ts (read ts) (read' ts)
          (repeated_within m test read) (repeated_within m test read') (reads ts) rec
      turn false rec = (refl, empty_piece P n ts)

  pub repeated_outcome : (test : TokenKind → Bool) (ts : List Lexeme) → Outcome (Repeated P) n ts (repeated_at test read ts) (repeated_at test read' ts)
  unfolding repeated_at
  repeated_outcome test ts = turns test (length ts) ts

  pub after_outcome : (s : Symbol) → opens (kinds.Symbol s) ≡ false → closes (kinds.Symbol s) ≡ false → (ts : List Lexeme) → Outcome (After s P) n ts (after_at s read ts) (after_at s read' ts)
  unfolding after_at
  after_outcome s no_opening no_closing ts =
      bind_same (After s P) n ts (symbol_at s ts) (λ q. read q.1) (λ q. read' q.1)
      (λ at mid e. later_alone (IsSymbol s) P (After s P) (λ ts at mid x rest d k. after d k) n ts at mid (symbol_piece n no_opening no_closing ((symbol_read s).sound ts at mid e)) (read mid) (read' mid) (reads mid))
      (symbol_never s ts)

separated_outcome' : {A : Type 0} (P : List Lexeme → A → List Lexeme → Type 0) (n : ℕ) (read read' : List Lexeme → Reading A) → ((ts : List Lexeme) → Outcome P n ts (read ts) (read' ts))
    → (s : Symbol) → opens (kinds.Symbol s) ≡ false → closes (kinds.Symbol s) ≡ false → (ts : List Lexeme) → Outcome (Separated s P) n ts (separated_at s read ts) (separated_at s read' ts)
unfolding separated_at
separated_outcome' {A} P n read read' reads s no_opening no_closing ts =
    both_outcome P (Repeated (After s P)) (Separated s P) (λ (x : A) (xs : List A). x ∷ xs) (λ ts x mid xs rest d more. separated d more) n (none_sample (After s P)) ts (read ts) (read' ts)
    (repeated_at (is_symbol s) (after_at s read)) (repeated_at (is_symbol s) (after_at s read')) (reads ts)
    (repeated_outcome (After s P) n (after_at s read) (after_at s read') (after_outcome P n read read' reads s no_opening no_closing) (is_symbol s))

pub separated_outcome : {A : Type 0} (P : List Lexeme → A → List Lexeme → Type 0) (n : ℕ) (read read' : List Lexeme → Reading A) → ((ts : List Lexeme) → Outcome P n ts (read ts) (read' ts))
    → (s : Symbol) → opens (kinds.Symbol s) ≡ false → closes (kinds.Symbol s) ≡ false → (ts : List Lexeme) → Outcome (Separated s P) n ts (separated_at s read ts) (separated_at s read' ts)
separated_outcome = separated_outcome'

-- names with commas between them
pub names_outcome : (n : ℕ) (ts : List Lexeme) → Outcome (Listed IsName) n ts (listed_at is_name_kind name_at ts) (listed_at is_name_kind name_at ts)
unfolding listed_at
names_outcome n ts = go (next_is is_name_kind ts)
  where
    no_names : Piece (Listed IsName) n ts [] ts
    no_names = record { used = []; whole = refl; again = λ tail. nothing; balanced = λ k. refl; fits = λ k. tt }

    go : (b : Bool) → Outcome (Listed IsName) n ts (cond {A = Reading (List SpeltName)} b (separated_at Comma name_at ts) (Ok ([], ts))) (cond {A = Reading (List SpeltName)} b (separated_at Comma name_at ts) (Ok ([], ts)))
    go true = seen_outcome (Separated Comma IsName) (Listed IsName) n (λ ts x rest d. listed d) ts (separated_at Comma name_at ts) (separated_at Comma name_at ts)
        (separated_outcome IsName n name_at name_at (name_outcome n) Comma refl refl ts)
    go false = (refl, no_names)

-- between two brackets
module _ {A C : Type 0} (o c : Symbol) (opening : opens (kinds.Symbol o) ≡ true) (no_opening : opens (kinds.Symbol c) ≡ false) (closing : closes (kinds.Symbol c) ≡ true)
    (P : List Lexeme → A → List Lexeme → Type 0) (R : List Lexeme → C → List Lexeme → Type 0) (f : ℕ → A → C)
    (join : (ts : List Lexeme) (at : ℕ) (first : List Lexeme) (x : A) (last : List Lexeme) (end : ℕ) (rest : List Lexeme) → IsSymbol o ts at first → P first x last → IsSymbol c last end rest → R ts (f at x) rest)
    (n : ℕ) (read read' : List Lexeme → Reading A) (reads : (ts : List Lexeme) → Outcome P n ts (read ts) (read' ts)) where
  close : ℕ → A × List Lexeme → Reading C
  close at q = symbol_at c q.1 >>= λ end. Ok (f at q.0, end.1)

  inside : {ts first : List Lexeme} {at : ℕ} → IsSymbol o ts at first → (r r' : Reading A) → Outcome P n first r r' → Outcome R (suc n) ts (r >>= close at) (r' >>= close at)
  unfolding close
  inside {ts} {first} {at} d (Ok q) r' h =
      subst (λ u. Outcome R (suc n) ts (close at q) (u >>= close at)) (sym h.0)
      (bind_same R (suc n) ts (symbol_at c q.1) (λ end. Ok (f at q.0, end.1)) (λ end. Ok (f at q.0, end.1))
      (λ end rest e. (refl, within_piece o c opening no_opening closing P R f join n q.0 d h.1 ((symbol_read c).sound q.1 end rest e)))
      (symbol_never c q.1))
  inside {at = at} d (Err (misfit place)) r' h = ap (λ u. u >>= close at) h
  inside d (Err (too_deep at)) r' h = within_deep o c opening no_opening closing P R f join n (record { kind = kinds.Symbol c; text = []; at = 0 }) refl d h

  pub bracket_outcome : (ts : List Lexeme) → Outcome R (suc n) ts (symbol_at o ts >>= λ at. read at.1 >>= λ x. symbol_at c x.1 >>= λ end. Ok (f at.0 x.0, end.1))
      (symbol_at o ts >>= λ at. read' at.1 >>= λ x. symbol_at c x.1 >>= λ end. Ok (f at.0 x.0, end.1))
  unfolding close
  bracket_outcome ts =
      bind_same R (suc n) ts (symbol_at o ts) (λ at. read at.1 >>= close at.0) (λ at. read' at.1 >>= close at.0)
      (λ at first e. inside ((symbol_read o).sound ts at first e) (read first) (read' first) (reads first)) (symbol_never o ts)
