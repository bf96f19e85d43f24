-- What is answered for one section, from what was read of its tokens.
use Rattle.std.proofs.Common.{◌≡◌, ℕ, List, [], ◌∷◌, Result, Ok, Err, refl, ◌∙◌}
use Rattle.rbg_macro.specs.Token.{Lexeme}
use Rattle.rbg_syntax.specs.declared.error.ReadError.{ReadError}
use Rattle.rbg_grammar.specs.Reading.{Fault, Reading, ended_at, whole_at}
use Rattle.rbg_syntax.specs.internal.Giving.{Fails, FailsWithin}
use Rattle.rbg_grammar.proofs.Readers.{IsReadBy, bind_ok}
use Rattle.rbg_syntax.proofs.Exits.{Fails-from, FailsWithin-shallow}

pub ok_value : {A : Type 0} (x y : A) → ◌≡◌ {A = Result A Fault} (Ok x) (Ok y) → x ≡ y
ok_value x y e = cc

ended : {A : Type 0} (x y : A) (ts : List Lexeme) → ended_at x ts ≡ Ok y → (x ≡ y) × (ts ≡ [])
ended x y [] e = (cc, refl)
ended x y (t ∷ ts) e = cc

pub ended_at-ok : {A : Type 0} (x : A) (ts : List Lexeme) → ended_at {A = Unit {0}} tt ts ≡ Ok tt → ended_at x ts ≡ Ok x
ended_at-ok x [] e = refl
ended_at-ok x (t ∷ ts) e = cc

ended_at-err : {A : Type 0} (x : A) (ts : List Lexeme) (f : Fault) → ended_at {A = Unit {0}} tt ts ≡ Err f → ended_at x ts ≡ Err f
ended_at-err x [] f e = cc
ended_at-err x (t ∷ ts) f e = cc

pub Fails-ended_at : {A : Type 0} (x : A) (ts : List Lexeme) (e : ReadError) → Fails e (ended_at {A = Unit {0}} tt ts) → Fails e (ended_at x ts)
Fails-ended_at x ts e h = Fails-from e (ended_at tt ts) (ended_at x ts) (ended_at-err x ts) h

-- the same, for rules
pub FailsWithin-ended_at : {A : Type 0} (x : A) (ts : List Lexeme) (e : ReadError) → Fails e (ended_at {A = Unit {0}} tt ts) → FailsWithin e (ended_at x ts)
FailsWithin-ended_at x ts e h = FailsWithin-shallow e (ended_at x ts) (Fails-ended_at x ts e h)

pub ruleset endings = (ended_at-ok, Fails-ended_at, FailsWithin-ended_at)

same_pair : {A : Type 0} (q : A × List Lexeme) (x : A) → q.0 ≡ x → q.1 ≡ [] → ◌≡◌ {A = Reading A} (Ok q) (Ok (x, []))
same_pair q x e f = λ i. Ok (e i, f i)

module _ {B : Type 0} (least : ℕ) (P : List Lexeme → B → List Lexeme → Type 0) (Follow : List Lexeme → Type 0) (read : List Lexeme → Reading B) (reads : IsReadBy least P Follow read) (follows : Follow []) (ts : List Lexeme) where
  pub whole_complete : (y : B) → P ts y [] → whole_at read ts ≡ Ok y
  unfolding whole_at
  whole_complete y d = rw (reads.complete ts y [] d follows)

  pub whole_sound : (y : B) → whole_at read ts ≡ Ok y → P ts y []
  unfolding whole_at
  whole_sound y e =
      let (q, first, last) = bind_ok _ _ _ e in
      let (value, none) = ended q.0 y q.1 last in
      reads.sound ts y [] (first ∙ same_pair q y value none)
