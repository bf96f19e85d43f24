-- A clock that goes on from a moment, and what logs take.
use Rattle.rbg_base.proofs.Common.{◌≡◌, ℕ, List, [], ◌∷◌, ◌++◌, sym, ◌∙◌, subst, append-nil, map-append}
use Rattle.rbg_serving.specs.Clocks.{TellsLater, later_by}
use Rattle.rbg_serving.specs.Logs.{AppendsFront}

pub tells_more : {C : Type 0} (told : C → List ℕ → Type 0) (old new : C) (since at result : ℕ) (so_far : List ℕ) → ((inner : List ℕ) → told old inner → told new (inner ++ at ∷ [])) → result ≡ later_by since at → TellsLater told old since so_far → TellsLater told new since (so_far ++ result ∷ [])
tells_more told old new since at result so_far more is tells = record {
  inner = tells.inner ++ at ∷ [];
  tells = more tells.inner tells.tells;
  are = (λ i. tells.are i ++ is i ∷ []) ∙ sym (map-append (later_by since) tells.inner (at ∷ []));
}

-- a log that took nothing
pub took_nothing : {W : Type 0} (told : W → List ℕ → Type 0) (old new : W) (bytes : List ℕ) → ((held : List ℕ) → told old held → told new held) → AppendsFront told old new bytes
took_nothing told old new bytes keeps = record { count = 0; part = λ held tells. subst (told new) (sym (append-nil held)) (keeps held tells) }

-- a clock that waits tells nothing
pub tells_same : {C : Type 0} (told : C → List ℕ → Type 0) (old new : C) (since : ℕ) (so_far : List ℕ) → ((inner : List ℕ) → told old inner → told new inner) → TellsLater told old since so_far → TellsLater told new since so_far
tells_same told old new since so_far keeps tells = record { inner = tells.inner; tells = keeps tells.inner tells.tells; are = tells.are }
