-- What comes next after a position, where that is one modifier alone.
use Rattle.rbg_base.proofs.Common.{◌≡◌, ℕ, ◌<◌, ◌≤◌, inl, inr, List, [], ◌∷◌, ◌++◌, true, false, length, get_or, refl, sym, subst, ◌∙◌, arith, IsTrue, slice_get, Some, cases_lt, slice_get-get_or, slice_get_within, get_or_from_slice_get, length_push, get_or_push}
use Rattle.rbg_base.proofs.CallerLemmas.{slice_get-append_left}
use Rattle.rbg_rules.specs.Meaning.{Expression, off, IsNumbered, IsSwitchAt, IsActionAt, after, Ends}
use Rattle.rbg_rules.specs.declared.rule.Action.{Action}
use Rattle.rbg_rules.specs.declared.rule.Action.TheVariants.{Shift, On, Off, Assign, Compare, Switch as SwitchAction, Positive, Negative}
use Rattle.rbg_auto.specs.Steps.{AreNext}
use Rattle.rbg_flat.specs.Onward.{IsOnward, IsOnwardTo}
use Rattle.rbg_flat.specs.internal.Shown.{ShowsOnward}
use Rattle.rbg_flat.specs.declared.onward.Onward.{Onward}
use Rattle.rbg_flat.specs.declared.onward.Onward.TheVariants.{Unknown, Modifier, Switch}
use Rattle.rbg_flat.proofs.Switches.{stands_switch}

pub false_not_true : false ≡ true → ⊥
false_not_true e = cc

-- A list of one item.
pub one_item : (xs : List ℕ) (d : ℕ) → 1 ≤ length xs → length xs < 2 → xs ≡ get_or xs 0 d ∷ []
one_item [] d some few = absurd (omega (arith, some))
one_item (x ∷ []) d some few = refl
one_item (x ∷ y ∷ ys) d some few = absurd (omega (arith, few))

-- One more is told.
pub each_more : {X : Type 0} (P : ℕ → X → Type 0) (xs ys : List X) (told : X) (last : ℕ) → ys ≡ xs ++ told ∷ [] → length xs ≡ last → ((p : ℕ) (f : X) → slice_get xs p ≡ Some f → P p f) → P last told → (p : ℕ) (f : X) → slice_get ys p ≡ Some f → P p f
each_more {X} P xs ys told last grown size so_far here p f is = elim (cases_lt p (length xs)) [
  | inl below ↦
      let was : slice_get xs p ≡ Some (get_or xs p f) = slice_get-get_or xs p f below in
      so_far p f (was ∙ sym (slice_get-append_left xs (told ∷ []) p (get_or xs p f) was) ∙ read)
  | inr far ↦
      let within = slice_get_within (xs ++ told ∷ []) p f read in
      let long = length_push xs told in
      let at : length xs ≡ p = omega (arith, far, within, long) in
      let same : told ≡ f = sym (get_or_push xs told f p at) ∙ get_or_from_slice_get (xs ++ told ∷ []) p f f read in
      subst (λ (x : X). P p x) same (subst (λ (k : ℕ). P k told) (sym size ∙ at) here)
]
  where
    read : slice_get (xs ++ told ∷ []) p ≡ Some f
    read = subst (λ (zs : List X). slice_get zs p ≡ Some f) grown is

-- What is told of an action of the program is so at its position.
module _ (rules : Expression) (numbered : IsNumbered rules) (p : ℕ) where
  no_switch : (IsSwitchAt rules p → IsTrue false) → ¬ IsSwitchAt rules p
  no_switch of is = false_not_true (of is)

  told_as : (told o : Onward) → told ≡ o → IsOnwardTo rules p o → IsOnwardTo rules p told
  told_as told o is holds = subst (λ (x : Onward). IsOnwardTo rules p x) (sym is) holds

  pub onward_stands : (i : Action) → IsActionAt rules p i → (told : Onward) → ShowsOnward p i told → IsOnwardTo rules p told
  onward_stands (Off x) stands told is =
      told_as told (Modifier p) is (refl, record { action = off x; stands = stands; modifies = refl }, no_switch (stands_switch rules numbered p (Off x) stands).1)
  onward_stands (Assign v e) stands told is =
      told_as told (Modifier p) is (refl, record { action = _; stands = stands; modifies = refl }, no_switch (stands_switch rules numbered p (Assign v e) stands).1)
  onward_stands (SwitchAction n) stands told is = told_as told (Switch p) is (refl, record { player = n; stands = stands })
  onward_stands (Shift d) stands told is = told_as told Unknown is tt
  onward_stands (On pieces) stands told is = told_as told Unknown is tt
  onward_stands (Compare e r f) stands told is = told_as told Unknown is tt
  onward_stands Positive stands told is = told_as told Unknown is tt
  onward_stands Negative stands told is = told_as told Unknown is tt

-- What is told of the one position that comes next is told of what comes next.
pub onward_alone : (rules : Expression) (p q : ℕ) → AreNext rules p (q ∷ []) → ¬ Ends rules (after p) [] → (told : Onward) → IsOnwardTo rules q told → IsOnward rules p told
onward_alone rules p q next no_end Unknown is = tt
onward_alone rules p q next no_end (Modifier r) (same, modifies, plain) = subst (λ (k : ℕ). IsOnward rules p (Modifier k)) (sym same) (record { alone = next; no_end = no_end }, modifies, plain)
onward_alone rules p q next no_end (Switch r) (same, is) = subst (λ (k : ℕ). IsOnward rules p (Switch k)) (sym same) (record { alone = next; no_end = no_end }, is)
