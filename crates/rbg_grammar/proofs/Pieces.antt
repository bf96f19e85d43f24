-- A phrase's own tokens, apart from what follows; and tokens that begin a phrase up to a bracket that is one too many.
use Rattle.std.proofs.Common.{◌≡◌, ◌+◌, ℕ, suc, List, [], ◌∷◌, ◌++◌, true, false, Ok, Err, refl, sym, ap, ◌∙◌, subst, arith, append_assoc}
use Rattle.rbg_macro.proofs.TextCommon.{Lexeme, opens, closes}
use Rattle.rbg_macro.specs.declared.token.Symbol.{Symbol}
use Rattle.rbg_macro.specs.declared.token.TokenKind.TheVariants as kinds
use Rattle.rbg_grammar.proofs.Common.{IsSymbol, symbol, open_with, open_after, misfit, too_deep, Reading, ◌>>=◌}
use Rattle.rbg_grammar.proofs.Nesting.{Fits, open_after-append, fits_append, opened, closed, passed, plain_fits}

-- The tokens of a phrase spell it whatever follows them. Their brackets match, and at most n are open at once.
pub record Piece {A : Type 0} (P : List Lexeme → A → List Lexeme → Type 0) (n : ℕ) (ts : List Lexeme) (x : A) (rest : List Lexeme) : Type 0 where
  pub used : List Lexeme
  pub whole : ts ≡ used ++ rest
  pub again : (tail : List Lexeme) → P (used ++ tail) x tail
  pub balanced : (k : ℕ) → open_after k used ≡ k
  pub fits : (k : ℕ) → Fits (k + n) k used

-- The bracket at this place is the first that is opened while n are open, and with other tokens after it there is a
-- phrase.
pub record Deep {A : Type 0} (P : List Lexeme → A → List Lexeme → Type 0) (n at : ℕ) (ts : List Lexeme) : Type 0 where
  pub before : List Lexeme
  pub bracket : Lexeme
  pub beyond : List Lexeme
  pub other : List Lexeme
  pub value : A
  pub whole : ts ≡ before ++ bracket ∷ beyond
  pub place : bracket.at ≡ at
  pub is_bracket : opens bracket.kind ≡ true
  pub depth : (k : ℕ) → open_after k before ≡ k + n
  pub fits : (k : ℕ) → Fits (k + n) k before
  pub spells : (tail : List Lexeme) → P (before ++ bracket ∷ (other ++ tail)) value tail

-- some tokens that are a phrase
pub record Sample {A : Type 0} (P : List Lexeme → A → List Lexeme → Type 0) : Type 0 where
  pub tokens : List Lexeme
  pub value : A
  pub spells : (tail : List Lexeme) → P (tokens ++ tail) value tail

-- What was read with n brackets, compared with what is read with one more: the same, unless a bracket was one too many.
abbrev pub Outcome : {A : Type 0} → (List Lexeme → A → List Lexeme → Type 0) → ℕ → List Lexeme → Reading A → Reading A → Type 0
Outcome P n ts (Ok q) r = (r ≡ Ok q) × Piece P n ts q.0 q.1
Outcome P n ts (Err (misfit place)) r = r ≡ Err (misfit place)
Outcome P n ts (Err (too_deep at)) r = Deep P n at ts

-- one reading after another
pub bind : {A C : Type 0} (P : List Lexeme → A → List Lexeme → Type 0) (R : List Lexeme → C → List Lexeme → Type 0) (n : ℕ) (us ts : List Lexeme)
    (r r' : Reading A) (next next' : A × List Lexeme → Reading C) → Outcome P n us r r'
    → ((q : A × List Lexeme) → Piece P n us q.0 q.1 → Outcome R n ts (next q) (next' q))
    → ((at : ℕ) → Deep P n at us → Deep R n at ts)
    → Outcome R n ts (r >>= next) (r' >>= next')
bind P R n us ts (Ok q) r' next next' o more deeper = subst (λ u. Outcome R n ts (next q) (u >>= next')) (sym o.0) (more q o.1)
bind P R n us ts (Err (misfit place)) r' next next' o more deeper = ap (λ u. u >>= next') o
bind P R n us ts (Err (too_deep at)) r' next next' o more deeper = deeper at o

-- a phrase seen as another one
pub seen_piece : {A C : Type 0} (P : List Lexeme → A → List Lexeme → Type 0) (R : List Lexeme → C → List Lexeme → Type 0) (f : A → C) (n : ℕ)
    → ((ts : List Lexeme) (x : A) (rest : List Lexeme) → P ts x rest → R ts (f x) rest) → (ts : List Lexeme) (x : A) (rest : List Lexeme) → Piece P n ts x rest → Piece R n ts (f x) rest
seen_piece P R f n see ts x rest p = record { used = p.used; whole = p.whole; again = λ tail. see (p.used ++ tail) x tail (p.again tail); balanced = p.balanced; fits = p.fits }

pub seen_deep : {A C : Type 0} (P : List Lexeme → A → List Lexeme → Type 0) (R : List Lexeme → C → List Lexeme → Type 0) (f : A → C) (n at : ℕ)
    → ((ts : List Lexeme) (x : A) (rest : List Lexeme) → P ts x rest → R ts (f x) rest) → (ts : List Lexeme) → Deep P n at ts → Deep R n at ts
seen_deep P R f n at see ts d = record {
  before = d.before;
  bracket = d.bracket;
  beyond = d.beyond;
  other = d.other;
  value = f d.value;
  whole = d.whole;
  place = d.place;
  is_bracket = d.is_bracket;
  depth = d.depth;
  fits = d.fits;
  spells = λ tail. see (d.before ++ d.bracket ∷ (d.other ++ tail)) d.value tail (d.spells tail);
}

-- two phrases, one after the other, that make a third one
module _ {A B C : Type 0} (P : List Lexeme → A → List Lexeme → Type 0) (Q : List Lexeme → B → List Lexeme → Type 0) (R : List Lexeme → C → List Lexeme → Type 0) (f : A → B → C)
    (join : (ts : List Lexeme) (x : A) (mid : List Lexeme) (y : B) (rest : List Lexeme) → P ts x mid → Q mid y rest → R ts (f x y) rest) (n : ℕ) where
  pub pieces : (ts : List Lexeme) (x : A) (mid : List Lexeme) (y : B) (rest : List Lexeme) → Piece P n ts x mid → Piece Q n mid y rest → Piece R n ts (f x y) rest
  pieces ts x mid y rest p q = record {
    used = p.used ++ q.used;
    whole = p.whole ∙ ap (λ us. p.used ++ us) q.whole ∙ sym (append_assoc p.used q.used rest);
    again = λ tail. subst (λ us. R us (f x y) tail) (sym (append_assoc p.used q.used tail)) (join _ x (q.used ++ tail) y tail (p.again (q.used ++ tail)) (q.again tail));
    balanced = λ k. open_after-append k p.used q.used ∙ ap (λ j. open_after j q.used) (p.balanced k) ∙ q.balanced k;
    fits = λ k. fits_append (k + n) k p.used q.used (p.fits k) (subst (λ j. Fits (k + n) j q.used) (sym (p.balanced k)) (q.fits k));
  }

  pub second_deep : (ts : List Lexeme) (x : A) (mid : List Lexeme) (at : ℕ) → Piece P n ts x mid → Deep Q n at mid → Deep R n at ts
  second_deep ts x mid at p d = record {
    before = p.used ++ d.before;
    bracket = d.bracket;
    beyond = d.beyond;
    other = d.other;
    value = f x d.value;
    whole = p.whole ∙ ap (λ us. p.used ++ us) d.whole ∙ sym (append_assoc p.used d.before (d.bracket ∷ d.beyond));
    place = d.place;
    is_bracket = d.is_bracket;
    depth = λ k. open_after-append k p.used d.before ∙ ap (λ j. open_after j d.before) (p.balanced k) ∙ d.depth k;
    fits = λ k. fits_append (k + n) k p.used d.before (p.fits k) (subst (λ j. Fits (k + n) j d.before) (sym (p.balanced k)) (d.fits k));
    spells = λ tail. let after = d.bracket ∷ (d.other ++ tail) in
        subst (λ us. R us (f x d.value) tail) (sym (append_assoc p.used d.before after)) (join _ x (d.before ++ after) d.value tail (p.again (d.before ++ after)) (d.spells tail));
  }

  pub first_deep : (ts : List Lexeme) (at : ℕ) → Deep P n at ts → Sample Q → Deep R n at ts
  first_deep ts at d s = record {
    before = d.before;
    bracket = d.bracket;
    beyond = d.beyond;
    other = d.other ++ s.tokens;
    value = f d.value s.value;
    whole = d.whole;
    place = d.place;
    is_bracket = d.is_bracket;
    depth = d.depth;
    fits = d.fits;
    spells = λ tail. subst (λ us. R (d.before ++ d.bracket ∷ us) (f d.value s.value) tail) (sym (append_assoc d.other s.tokens tail))
        (join _ d.value (s.tokens ++ tail) s.value tail (d.spells (s.tokens ++ tail)) (s.spells tail));
  }

-- symbols that are no brackets
pub symbol_piece : {s : Symbol} {ts rest : List Lexeme} {at : ℕ} (n : ℕ) → opens (kinds.Symbol s) ≡ false → closes (kinds.Symbol s) ≡ false → IsSymbol s ts at rest → Piece (IsSymbol s) n ts at rest
symbol_piece n no_opening no_closing (symbol {t = t} k) = record {
  used = t ∷ [];
  whole = refl;
  again = λ tail. symbol k;
  balanced = λ j. passed j t.kind (ap opens k ∙ no_opening) (ap closes k ∙ no_closing);
  fits = λ j. plain_fits (j + n) j t (ap opens k ∙ no_opening);
}

-- a phrase between two brackets, as part of one that may hold one more bracket
module _ {A C : Type 0} (o c : Symbol) (opening : opens (kinds.Symbol o) ≡ true) (no_opening : opens (kinds.Symbol c) ≡ false) (closing : closes (kinds.Symbol c) ≡ true)
    (P : List Lexeme → A → List Lexeme → Type 0) (R : List Lexeme → C → List Lexeme → Type 0) (f : ℕ → A → C)
    (join : (ts : List Lexeme) (at : ℕ) (first : List Lexeme) (x : A) (last : List Lexeme) (end : ℕ) (rest : List Lexeme) → IsSymbol o ts at first → P first x last → IsSymbol c last end rest → R ts (f at x) rest) (n : ℕ) where
  pub within_piece : {ts first last rest : List Lexeme} {at end : ℕ} (x : A) → IsSymbol o ts at first → Piece P n first x last → IsSymbol c last end rest → Piece R (suc n) ts (f at x) rest
  within_piece x (symbol {t = t} {rest = first} k) p (symbol {t = u} {rest = rest} l) = record {
    used = t ∷ (p.used ++ u ∷ []);
    whole = ap (λ us. t ∷ us) (p.whole ∙ sym (append_assoc p.used (u ∷ []) rest));
    again = λ tail. subst (λ us. R (t ∷ us) (f t.at x) tail) (sym (append_assoc p.used (u ∷ []) tail)) (join _ t.at (p.used ++ u ∷ tail) x (u ∷ tail) u.at tail (symbol k) (p.again (u ∷ tail)) (symbol l));
    balanced = λ j. ap (λ i. open_after i (p.used ++ u ∷ [])) (opened j t.kind (ap opens k ∙ opening)) ∙ open_after-append (j + 1) p.used (u ∷ [])
        ∙ ap (λ i. open_with i u.kind) (p.balanced (j + 1)) ∙ closed j u.kind (ap opens l ∙ no_opening) (ap closes l ∙ closing);
    fits = λ j. (λ is. omega arith, subst (λ i. Fits (j + suc n) i (p.used ++ u ∷ [])) (sym (opened j t.kind (ap opens k ∙ opening))) (inner j));
  }
    where
      same : (j : ℕ) → (j + 1) + n ≡ j + suc n
      same j = omega arith

      inner : (j : ℕ) → Fits (j + suc n) (j + 1) (p.used ++ u ∷ [])
      inner j = fits_append (j + suc n) (j + 1) p.used (u ∷ []) (subst (λ m. Fits m (j + 1) p.used) (same j) (p.fits (j + 1))) (plain_fits (j + suc n) (open_after (j + 1) p.used) u (ap opens l ∙ no_opening))

  pub within_deep : {ts first : List Lexeme} {place at : ℕ} → (mark : Lexeme) → mark.kind ≡ kinds.Symbol c → IsSymbol o ts place first → Deep P n at first → Deep R (suc n) at ts
  within_deep {at = at} mark l (symbol {t = t} {rest = first} k) d = record {
    before = t ∷ d.before;
    bracket = d.bracket;
    beyond = d.beyond;
    other = d.other ++ mark ∷ [];
    value = f t.at d.value;
    whole = ap (λ us. t ∷ us) d.whole;
    place = d.place;
    is_bracket = d.is_bracket;
    depth = λ j. ap (λ i. open_after i d.before) (opened j t.kind (ap opens k ∙ opening)) ∙ d.depth (j + 1) ∙ same j;
    fits = λ j. (λ is. omega arith, subst (λ i. Fits (j + suc n) i d.before) (sym (opened j t.kind (ap opens k ∙ opening))) (subst (λ m. Fits m (j + 1) d.before) (same j) (d.fits (j + 1))));
    spells = λ tail. subst (λ us. R (t ∷ (d.before ++ d.bracket ∷ us)) (f t.at d.value) tail) (sym (append_assoc d.other (mark ∷ []) tail))
        (join _ t.at (d.before ++ d.bracket ∷ (d.other ++ mark ∷ tail)) d.value (mark ∷ tail) mark.at tail (symbol k) (d.spells (mark ∷ tail)) (symbol l));
  }
    where
      same : (j : ℕ) → (j + 1) + n ≡ j + suc n
      same j = omega arith
