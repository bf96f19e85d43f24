-- Where readings stop: at the first token that doesn't fit, whatever follows it, or where the tokens end.
use Rattle.std.proofs.Common.{◌≡◌, ℕ, List, [], ◌∷◌, ◌++◌, Bool, true, false, cond, Some, None, Ok, Err, refl, sym, ap, ◌∙◌, subst, append_assoc}
use Rattle.rbg_macro.specs.Token.{Lexeme}
use Rattle.rbg_grammar.proofs.Common.{misfit, too_deep, Reading, ◌>>=◌, TokenAt}

-- with some tokens after them the tokens are such a phrase, whatever follows
pub record Begun {A : Type 0} (P : List Lexeme → A → List Lexeme → Type 0) (ts : List Lexeme) : Type 0 where
  pub other : List Lexeme
  pub value : A
  pub spells : (tail : List Lexeme) → P (ts ++ (other ++ tail)) value tail

-- The tokens used are such a phrase, whatever follows. They are read in the same way if the next token is the same.
pub record Taken {A : Type 0} (P : List Lexeme → A → List Lexeme → Type 0) (read : List Lexeme → Reading A) (ts : List Lexeme) (x : A) (rest : List Lexeme) : Type 0 where
  pub used : List Lexeme
  pub whole : ts ≡ used ++ rest
  pub spells : (tail : List Lexeme) → P (used ++ tail) x tail
  pub same : (t : Lexeme) (beyond other : List Lexeme) → rest ≡ t ∷ beyond → read (used ++ t ∷ other) ≡ Ok (x, t ∷ other)

-- The tokens before the one at this place may begin such a phrase, and with it nothing is read, whatever follows.
pub record Stuck {A : Type 0} (P : List Lexeme → A → List Lexeme → Type 0) (read : List Lexeme → Reading A) (ts : List Lexeme) (at : ℕ) : Type 0 where
  pub here : TokenAt ts at
  pub begun : Begun P here.before
  pub same : (other : List Lexeme) → read (here.before ++ here.token ∷ other) ≡ Err (misfit (Some at))

-- what is read of the tokens
abbrev pub Judged : {A : Type 0} → (List Lexeme → A → List Lexeme → Type 0) → (List Lexeme → Reading A) → List Lexeme → Reading A → Type 0
Judged P read ts (Ok q) = Taken P read ts q.0 q.1
Judged P read ts (Err (misfit None)) = Begun P ts
Judged P read ts (Err (misfit (Some at))) = Stuck P read ts at
Judged P read ts (Err (too_deep at)) = ts ≡ [] → ⊥

pub record Judges {A : Type 0} (P : List Lexeme → A → List Lexeme → Type 0) (read : List Lexeme → Reading A) : Type 0 where
  pub at : (ts : List Lexeme) → Judged P read ts (read ts)

-- the phrase after tokens that were used
abbrev pub Beyond : {A : Type 0} → List Lexeme → (List Lexeme → A → List Lexeme → Type 0) → List Lexeme → A → List Lexeme → Type 0
Beyond used R ts x rest = R (used ++ ts) x rest

no_token : (xs : List Lexeme) (t : Lexeme) (ys : List Lexeme) → [] ≡ xs ++ t ∷ ys → ⊥
no_token [] t ys e = cc
no_token (x ∷ xs) t ys e = cc

nothing_left : (xs ys : List Lexeme) → xs ++ ys ≡ [] → ys ≡ []
nothing_left [] ys e = e
nothing_left (x ∷ xs) ys e = cc

-- the same front is read in the same way by another reader
pub as_read : {A : Type 0} (P : List Lexeme → A → List Lexeme → Type 0) (read other : List Lexeme → Reading A) (ts : List Lexeme) (r : Reading A)
    → ((front : List Lexeme) (t : Lexeme) (beyond more : List Lexeme) → ts ≡ front ++ t ∷ beyond → read (front ++ t ∷ more) ≡ other (front ++ t ∷ more)) → Judged P read ts r → Judged P other ts r
as_read P read other ts (Ok q) same j = record {
  used = j.used;
  whole = j.whole;
  spells = j.spells;
  same = λ t beyond more e. sym (same j.used t beyond more (j.whole ∙ ap (λ us. j.used ++ us) e)) ∙ j.same t beyond more e;
}
as_read P read other ts (Err (misfit None)) same j = j
as_read P read other ts (Err (misfit (Some at))) same j = record {
  here = j.here;
  begun = j.begun;
  same = λ more. sym (same j.here.before j.here.token j.here.beyond more j.here.whole) ∙ j.same more;
}
as_read P read other ts (Err (too_deep at)) same j = j

-- a phrase seen as another one
pub begun_as : {A C : Type 0} (P : List Lexeme → A → List Lexeme → Type 0) (R : List Lexeme → C → List Lexeme → Type 0) (f : A → C)
    → ((ts : List Lexeme) (x : A) (rest : List Lexeme) → P ts x rest → R ts (f x) rest) → (ts : List Lexeme) → Begun P ts → Begun R ts
begun_as P R f see ts b = record { other = b.other; value = f b.value; spells = λ tail. see (ts ++ (b.other ++ tail)) b.value tail (b.spells tail) }

seen_at : {A : Type 0} (P R : List Lexeme → A → List Lexeme → Type 0) (read : List Lexeme → Reading A) → ((ts : List Lexeme) (x : A) (rest : List Lexeme) → P ts x rest → R ts x rest)
    → (ts : List Lexeme) (r : Reading A) → Judged P read ts r → Judged R read ts r
seen_at P R read see ts (Ok q) j = record { used = j.used; whole = j.whole; spells = λ tail. see (j.used ++ tail) q.0 tail (j.spells tail); same = j.same }
seen_at {A} P R read see ts (Err (misfit None)) j = begun_as P R (λ (x : A). x) see ts j
seen_at {A} P R read see ts (Err (misfit (Some at))) j = record {
  here = j.here;
  begun = begun_as P R (λ (x : A). x) see j.here.before j.begun;
  same = j.same;
}
seen_at P R read see ts (Err (too_deep at)) j = j

pub seen : {A : Type 0} {P R : List Lexeme → A → List Lexeme → Type 0} {read : List Lexeme → Reading A} → ((ts : List Lexeme) (x : A) (rest : List Lexeme) → P ts x rest → R ts x rest) → Judges P read → Judges R read
seen {A} {P} {R} {read} see j = record { at = λ ts. seen_at P R read see ts (read ts) (j.at ts) }

-- nothing more is read
given_at : {A : Type 0} (R : List Lexeme → A → List Lexeme → Type 0) (x : A) → ((tail : List Lexeme) → R tail x tail) → (ts : List Lexeme) → Taken R (λ us. Ok (x, us)) ts x ts
given_at R x spells' ts = record { used = []; whole = refl; spells = spells'; same = λ t beyond other e. refl }

pub given : {A : Type 0} {R : List Lexeme → A → List Lexeme → Type 0} {x : A} → ((tail : List Lexeme) → R tail x tail) → Judges R (λ us. Ok (x, us))
given {A} {R} {x} spells = record { at = given_at R x spells }

-- what is read of no tokens may begin
begun_here : {A : Type 0} (R : List Lexeme → A → List Lexeme → Type 0) (read : List Lexeme → Reading A) (r : Reading A) → Judged R read [] r → Begun R []
begun_here R read (Ok q) j = record { other = j.used; value = q.0; spells = j.spells }
begun_here R read (Err (misfit None)) j = j
begun_here R read (Err (misfit (Some at))) j = absurd (no_token j.here.before j.here.token j.here.beyond j.here.whole)
begun_here R read (Err (too_deep at)) j = absurd (j refl)

-- the tokens that are left begin with the same token
read_again : {A : Type 0} (P : List Lexeme → A → List Lexeme → Type 0) (read : List Lexeme → Reading A) (ts : List Lexeme) (x : A) (rest : List Lexeme) (k : Taken P read ts x rest)
    (front : List Lexeme) (t : Lexeme) (beyond other : List Lexeme) → rest ≡ front ++ t ∷ beyond → read (k.used ++ (front ++ t ∷ other)) ≡ Ok (x, front ++ t ∷ other)
read_again P read ts x rest k [] t beyond other e = k.same t beyond other e
read_again P read ts x rest k (u ∷ front) t beyond other e = k.same u (front ++ t ∷ beyond) (front ++ t ∷ other) e

-- one reading after another
module _ {A C : Type 0} (P : List Lexeme → A → List Lexeme → Type 0) (R : List Lexeme → C → List Lexeme → Type 0) (read : List Lexeme → Reading A) (next : A × List Lexeme → Reading C) where
  joined : List Lexeme → Reading C
  joined ts = read ts >>= next

  -- a first reading that may continue
  begun_first : (before : List Lexeme) (b : Begun P before) → Judged (Beyond (before ++ b.other) R) (λ us. next (b.value, us)) [] (next (b.value, [])) → Begun R before
  begun_first before b j =
      let rest = begun_here (Beyond (before ++ b.other) R) (λ us. next (b.value, us)) (next (b.value, [])) j in
      record {
        other = b.other ++ rest.other;
        value = rest.value;
        spells = λ tail. let same : (before ++ b.other) ++ (rest.other ++ tail) ≡ before ++ ((b.other ++ rest.other) ++ tail) = append_assoc before b.other (rest.other ++ tail) ∙ ap (λ us. before ++ us) (sym (append_assoc b.other rest.other tail)) in
            subst (λ us. R us rest.value tail) same (rest.spells tail);
      }

  -- a second reading that may continue, after a first one
  begun_second : (used before : List Lexeme) → Begun (Beyond used R) before → Begun R (used ++ before)
  begun_second used before b = record { other = b.other; value = b.value; spells = λ tail. subst (λ us. R us b.value tail) (sym (append_assoc used before (b.other ++ tail))) (b.spells tail) }

  second : (ts : List Lexeme) (x : A) (mid : List Lexeme) (k : Taken P read ts x mid) (s : Reading C) → Judged (Beyond k.used R) (λ us. next (x, us)) mid s → Judged R joined ts s
  unfolding joined
  second ts x mid k (Ok q) j = record {
    used = k.used ++ j.used;
    whole = k.whole ∙ ap (λ us. k.used ++ us) j.whole ∙ sym (append_assoc k.used j.used q.1);
    spells = λ tail. subst (λ us. R us q.0 tail) (sym (append_assoc k.used j.used tail)) (j.spells tail);
    same = λ t beyond other e.
        ap (λ us. read us >>= next) (append_assoc k.used j.used (t ∷ other))
        ∙ ap (λ u. u >>= next) (read_again P read ts x mid k j.used t beyond other (j.whole ∙ ap (λ us. j.used ++ us) e))
        ∙ j.same t beyond other e;
  }
  second ts x mid k (Err (misfit None)) j = subst (λ us. Begun R us) (sym k.whole) (begun_second k.used mid j)
  second ts x mid k (Err (misfit (Some at))) j = record {
    here = record {
      before = k.used ++ j.here.before;
      token = j.here.token;
      beyond = j.here.beyond;
      whole = k.whole ∙ ap (λ us. k.used ++ us) j.here.whole ∙ sym (append_assoc k.used j.here.before (j.here.token ∷ j.here.beyond));
      place = j.here.place;
    };
    begun = begun_second k.used j.here.before j.begun;
    same = λ other.
        ap (λ us. read us >>= next) (append_assoc k.used j.here.before (j.here.token ∷ other))
        ∙ ap (λ u. u >>= next) (read_again P read ts x mid k j.here.before j.here.token j.here.beyond other j.here.whole)
        ∙ j.same other;
  }
  second ts x mid k (Err (too_deep at)) j = λ none. j (nothing_left k.used mid (sym k.whole ∙ none))

  -- what is left after the first reading meets a condition, and so does the empty list
  first : (Left : List Lexeme → Type 0) → Left [] → (ts : List Lexeme) (r : Reading A) → ((x : A) (us : List Lexeme) → r ≡ Ok (x, us) → Left us) → Judged P read ts r
      → ((x : A) (used : List Lexeme) → ((tail : List Lexeme) → P (used ++ tail) x tail) → (us : List Lexeme) → Left us → Judged (Beyond used R) (λ vs. next (x, vs)) us (next (x, us)))
      → Judged R joined ts (r >>= next)
  unfolding joined
  first Left nil ts (Ok q) left j more = second ts q.0 q.1 j (next q) (more q.0 j.used j.spells q.1 (left q.0 q.1 refl))
  first Left nil ts (Err (misfit None)) left j more =
      begun_first ts j (more j.value (ts ++ j.other) (λ tail. subst (λ us. P us j.value tail) (sym (append_assoc ts j.other tail)) (j.spells tail)) [] nil)
  first Left nil ts (Err (misfit (Some at))) left j more = record {
    here = j.here;
    begun = begun_first j.here.before j.begun
        (more j.begun.value (j.here.before ++ j.begun.other) (λ tail. subst (λ us. P us j.begun.value tail) (sym (append_assoc j.here.before j.begun.other tail)) (j.begun.spells tail)) [] nil);
    same = λ other. ap (λ u. u >>= next) (j.same other);
  }
  first Left nil ts (Err (too_deep at)) left j more = j

  pub bind_at : (Left : List Lexeme → Type 0) → Left [] → (ts : List Lexeme) → ((x : A) (us : List Lexeme) → read ts ≡ Ok (x, us) → Left us) → Judged P read ts (read ts)
      → ((x : A) (used : List Lexeme) → ((tail : List Lexeme) → P (used ++ tail) x tail) → (us : List Lexeme) → Left us → Judged (Beyond used R) (λ vs. next (x, vs)) us (next (x, us)))
      → Judged R (λ us. read us >>= next) ts (read ts >>= next)
  unfolding joined
  bind_at Left nil ts left j more = first Left nil ts (read ts) left j more

pub bind : {A C : Type 0} {P : List Lexeme → A → List Lexeme → Type 0} {R : List Lexeme → C → List Lexeme → Type 0} {read : List Lexeme → Reading A} → Judges P read → (next : A × List Lexeme → Reading C)
    → ((x : A) (used : List Lexeme) → ((tail : List Lexeme) → P (used ++ tail) x tail) → Judges (Beyond used R) (λ us. next (x, us))) → Judges R (λ ts. read ts >>= next)
bind {A} {C} {P} {R} {read} j next more = record { at = λ ts. bind_at P R read next (λ us. Unit {0}) tt ts (λ x us e. tt) (j.at ts) (λ x used spells us left. (more x used spells).at us) }

-- by a test of the next token
module _ {A : Type 0} (P : List Lexeme → A → List Lexeme → Type 0) (test : List Lexeme → Bool) (of_front : (t : Lexeme) (us vs : List Lexeme) → test (t ∷ us) ≡ test (t ∷ vs)) (yes no : List Lexeme → Reading A) where
  same_test : (front : List Lexeme) (t : Lexeme) (beyond other : List Lexeme) → test (front ++ t ∷ other) ≡ test (front ++ t ∷ beyond)
  same_test [] t beyond other = of_front t other beyond
  same_test (u ∷ front) t beyond other = of_front u (front ++ t ∷ other) (front ++ t ∷ beyond)

  chosen : (ts : List Lexeme) (b : Bool) → test ts ≡ b → (b ≡ true → Judged P yes ts (yes ts)) → (b ≡ false → Judged P no ts (no ts)) → Judged P (λ us. cond (test us) (yes us) (no us)) ts (cond b (yes ts) (no ts))
  chosen ts true e j k = as_read P yes (λ us. cond (test us) (yes us) (no us)) ts (yes ts) (λ front t beyond more is. let so : test (front ++ t ∷ more) ≡ true = same_test front t beyond more ∙ sym (ap test is) ∙ e in rw so) (j refl)
  chosen ts false e j k = as_read P no (λ us. cond (test us) (yes us) (no us)) ts (no ts) (λ front t beyond more is. let so : test (front ++ t ∷ more) ≡ false = same_test front t beyond more ∙ sym (ap test is) ∙ e in rw so) (k refl)

  pub choose_at : (ts : List Lexeme) → (test ts ≡ true → Judged P yes ts (yes ts)) → (test ts ≡ false → Judged P no ts (no ts)) → Judged P (λ us. cond (test us) (yes us) (no us)) ts (cond (test ts) (yes ts) (no ts))
  choose_at ts j k = chosen ts (test ts) refl j k

pub choose : {A : Type 0} {P : List Lexeme → A → List Lexeme → Type 0} {yes no : List Lexeme → Reading A} (test : List Lexeme → Bool) → ((t : Lexeme) (us vs : List Lexeme) → test (t ∷ us) ≡ test (t ∷ vs))
    → Judges P yes → Judges P no → Judges P (λ us. cond (test us) (yes us) (no us))
choose {A} {P} {yes} {no} test of_front j k = record { at = λ ts. choose_at P test of_front yes no ts (λ e. j.at ts) (λ e. k.at ts) }

-- a reader that reads the same
pub same_reader : {A : Type 0} {P : List Lexeme → A → List Lexeme → Type 0} {read other : List Lexeme → Reading A} → ((ts : List Lexeme) → read ts ≡ other ts) → Judges P other → Judges P read
same_reader {A} {P} {read} {other} same j = record { at = λ ts. subst (λ r. Judged P read ts r) (sym (same ts)) (as_read P other read ts (other ts) (λ front t beyond more is. sym (same (front ++ t ∷ more))) (j.at ts)) }
