-- The place of an error: the first token of a section that doesn't fit, or the section's `#`.
use Rattle.std.proofs.Common.{◌≡◌, ℕ, List, [], ◌∷◌, ◌++◌, Option, Some, None, Result, Ok, Err, refl, sym, ap, ◌∙◌, subst, append_assoc, inl, inr}
use Rattle.rbg_macro.specs.Token.{Lexeme}
use Rattle.rbg_macro.specs.Sections.{SectionTokens}
use Rattle.rbg_macro.specs.declared.source.SectionKind.{SectionKind}
use Rattle.rbg_syntax.specs.declared.error.Expectation.{Expectation}
use Rattle.rbg_syntax.specs.declared.error.ReadError.{ReadError}
use Rattle.rbg_syntax.specs.declared.error.ReadError.TheVariants as faults
use Rattle.rbg_syntax.specs.declared.error.SyntaxError.{SyntaxError}
use Rattle.rbg_grammar.proofs.Common.{Fault, misfit, too_deep, Reading, ◌>>=◌, ended_at, whole_at, sections_of, IsSpelt, TokenAt}
use Rattle.rbg_syntax.specs.internal.Giving.{Gives, GivesWithin, error_in, placed}
use Rattle.rbg_syntax.specs.Faults.{HasFault}
use Rattle.rbg_grammar.proofs.Misfits.{Taken, Stuck, Judged, Judges}

-- the tokens before the one at this place may begin such a phrase, and with it they don't fit, whatever follows
pub record MisfitAt {B : Type 0} (P : List Lexeme → B → List Lexeme → Type 0) (read : List Lexeme → Reading B) (ts : List Lexeme) (at : ℕ) : Type 0 where
  pub here : TokenAt ts at
  pub more : List Lexeme
  pub value : B
  pub fits : P (here.before ++ more) value []
  pub never : (other : List Lexeme) → whole_at read (here.before ++ here.token ∷ other) ≡ Err (misfit (Some at))

module _ {B : Type 0} (P : List Lexeme → B → List Lexeme → Type 0) (read : List Lexeme → Reading B) (j : Judges P read) where
  left_over : (ts : List Lexeme) (x : B) (rest : List Lexeme) (at : ℕ) → Taken P read ts x rest → ended_at x rest ≡ Err (misfit (Some at)) → MisfitAt P read ts at
  unfolding whole_at
  left_over ts x [] at k e = cc
  left_over ts x (t ∷ us) at k e =
      let same : t.at ≡ at = cc in
      record {
        here = record { before = k.used; token = t; beyond = us; whole = k.whole; place = same };
        more = [];
        value = x;
        fits = k.spells [];
        never = λ other. ap (λ r. r >>= λ q. ended_at q.0 q.1) (k.same t us other refl) ∙ ap (λ (b : ℕ). Err (misfit (Some b))) same;
      }

  stuck : (ts : List Lexeme) (at : ℕ) → Stuck P read ts at → MisfitAt P read ts at
  unfolding whole_at
  stuck ts at k = record {
    here = k.here;
    more = k.begun.other ++ [];
    value = k.begun.value;
    fits = k.begun.spells [];
    never = λ other. ap (λ r. r >>= λ q. ended_at q.0 q.1) (k.same other);
  }

  stops_at : (ts : List Lexeme) (at : ℕ) → whole_at read ts ≡ Err (misfit (Some at)) → MisfitAt P read ts at
  unfolding whole_at
  stops_at ts at e = go (read ts) (j.at ts) e
    where
      go : (r : Reading B) → Judged P read ts r → (r >>= λ q. ended_at q.0 q.1) ≡ Err (misfit (Some at)) → MisfitAt P read ts at
      go (Ok q) k e = left_over ts q.0 q.1 at k e
      go (Err (misfit None)) k e = cc
      go (Err (misfit (Some b))) k e = let same : b ≡ at = cc in subst (λ a. MisfitAt P read ts a) same (stuck ts b k)
      go (Err (too_deep b)) k e = cc

  never_ends : (x : B) (rest : List Lexeme) → ended_at x rest ≡ Err (misfit None) → ⊥
  never_ends x [] e = cc
  never_ends x (t ∷ us) e = cc

  ends_at : (ts : List Lexeme) → whole_at read ts ≡ Err (misfit None) → (more : List Lexeme) × ((x : B) × P (ts ++ more) x [])
  unfolding whole_at
  ends_at ts e = go (read ts) (j.at ts) e
    where
      go : (r : Reading B) → Judged P read ts r → (r >>= λ q. ended_at q.0 q.1) ≡ Err (misfit None) → (more : List Lexeme) × ((x : B) × P (ts ++ more) x [])
      go (Ok q) k e = absurd (never_ends q.0 q.1 e)
      go (Err (misfit None)) k e = (k.other ++ [], (k.value, k.spells []))
      go (Err (misfit (Some b))) k e = cc
      go (Err (too_deep b)) k e = cc

  -- what is refused is at the place that the error names
  module _ (kind : SectionKind) (see : (ts : List Lexeme) (x : B) → P ts x [] → IsSpelt kind ts) (refuted : (ts : List Lexeme) (place : Option ℕ) → whole_at read ts ≡ Err (misfit place) → IsSpelt kind ts → ⊥)
      (all : List SectionTokens) (s : SectionTokens) (only : sections_of kind all ≡ s ∷ []) where
    pub misspelt : (place : Option ℕ) (what : Expectation) → whole_at read s.tokens ≡ Err (misfit place) → HasFault all (error_in s.at (faults.Misfit place what))
    misspelt (Some at) what e =
        let k = stops_at s.tokens at e in
        record {
          kind = kind;
          ts = s.tokens;
          has = record { section = s; only = only; tokens = refl };
          spells_nothing = refuted s.tokens (Some at) e;
          place = inl (record {
            here = k.here;
            fits = (k.more, see (k.here.before ++ k.more) k.value k.fits);
            refused = λ c. refuted (k.here.before ++ k.here.token ∷ c.0) (Some at) (k.never c.0) (subst (λ us. IsSpelt kind us) (append_assoc k.here.before (k.here.token ∷ []) c.0) c.1);
          });
        }
    misspelt None what e =
        let k = ends_at s.tokens e in
        record {
          kind = kind;
          ts = s.tokens;
          has = record { section = s; only = only; tokens = refl };
          spells_nothing = refuted s.tokens None e;
          place = inr (record { place = refl; fits = (k.0, see (s.tokens ++ k.0) k.1.0 k.1.1) });
        }

pub one_error : {A : Type 0} (x y : SyntaxError) → ◌≡◌ {A = Result A SyntaxError} (Err x) (Err y) → x ≡ y
one_error x y e = cc

-- what was read, at the place where it was read
pub placed_ok : {A B : Type 0} (view : A → B) (read : Result B Fault) (start : ℕ) (r : Result A ReadError) (x : A) → placed start r ≡ Ok x → Gives view r read → read ≡ Ok (view x)
placed_ok view read start (Ok y) x same h = let one : y ≡ x = cc in h ∙ ap (λ z. Ok (view z)) one
placed_ok view read start (Err d) x same h = cc

-- the same, if brackets may be nested too deep
pub placed_within : {A B : Type 0} (view : A → B) (read : Result B Fault) (start : ℕ) (r : Result A ReadError) (x : A) → placed start r ≡ Ok x → GivesWithin view r read → read ≡ Ok (view x)
placed_within view read start (Ok y) x same h = let one : y ≡ x = cc in h ∙ ap (λ z. Ok (view z)) one
placed_within view read start (Err d) x same h = cc

pub placed_there : {A : Type 0} (start at : ℕ) (r : Result A ReadError) (x : Result A SyntaxError) → start ≡ at → x ≡ placed start r → placed at r ≡ x
placed_there start at r x same is = ap (λ n. placed n r) (sym same) ∙ sym is
