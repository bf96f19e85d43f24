-- The moves are the same if their lists are.
use Rattle.std.proofs.Common.{◌≡◌, ℕ, List, refl, sym, ap, subst, ◌∙◌, Option, Some, None, IfSome, IfNone, Vec, Global, IsTrue, true, false}
use Rattle.std.proofs.lemmas.Bool.{false≢true}
use Rattle.rbg_position.specs.Refusals.MayMovesDiffer.{differ, here_unlisted, there_unlisted}
use Rattle.rbg_position.proofs.Beginnings.{same_listed}
use Rattle.rbg_position.proofs.same_moves.same_moves.Goals as goal

found : (o : Option (Vec (List (ℕ × ℕ)) Global)) (moves : Vec (List (ℕ × ℕ)) Global) (P : Vec (List (ℕ × ℕ)) Global → Type 0) → o ≡ Some moves → IfSome o P → P moves
found o moves P some = subst (λ x. IfSome x P) some

none_of : {A : Type 0} (o : Option A) (P : Type 0) → ((x : A) → o ≡ Some x → ⊥) → IfNone o P → P
none_of None P missing none = none
none_of (Some x) P missing none = absurd (missing x refl)

pub returns-in_default-clause-apart : goal.returns-in_default-clause-apart
returns-in_default-clause-apart c = λ _. here_unlisted (none_of _ _ c.in_default.not-Some c.in_ok-new_moves.ensures.none)

pub returns-in_default-2-clause-apart : goal.returns-in_default-2-clause-apart
returns-in_default-2-clause-apart c = λ _. there_unlisted (none_of _ _ c.in_default-2.not-Some c.in_ok-old_moves.ensures.none)

pub returns-clause-same : goal.returns-clause-same
returns-clause-same c = λ h.
    same_listed _ _ _ _ _ _ (found _ c.in-Some.new_moves _ c.in-Some.is c.in_ok-new_moves.ensures.all) (found _ c.in-Some-2.old_moves _ c.in-Some-2.is c.in_ok-old_moves.ensures.all)
    (sym c.deref.ensures.value ∙ c.same_lists.ensures.0 h ∙ c.deref-2.ensures.value)

pub returns-clause-apart : goal.returns-clause-apart
returns-clause-apart c = λ h.
    differ (found _ c.in-Some.new_moves _ c.in-Some.is c.in_ok-new_moves.ensures.all) (found _ c.in-Some-2.old_moves _ c.in-Some-2.is c.in_ok-old_moves.ensures.all)
    (λ same. false≢true (sym h ∙ c.same_lists.ensures.1 (c.deref.ensures.value ∙ same ∙ sym c.deref-2.ensures.value)))
