-- Meetings, one after another.
use Rattle.rbg_base.proofs.Common.{◌≡◌, ℕ, ◌+◌, ◌*◌, ◌%◌, ◌<◌, ◌≤◌, ◌⊎◌, inl, inr, refl, sym, subst, ◌∙◌, arith, ◌↔◌, bit_at}
use Rattle.rbg_flat.specs.internal.Sets.{SetsOfVertices, IsMarked, IsOpen, IsInWord, MeetsWord, Meets, weight}

-- Nothing is met.
pub meets_none : (sets : SetsOfVertices) (In : (v p : ℕ) → Type 0) (Opens : (v p : ℕ) → Type 0) → ((v p : ℕ) → ¬ In v p) → Meets sets sets In Opens
meets_none sets In Opens none = record {
  size = refl;
  columns = refl;
  kept = λ v p has. has;
  met = λ v p there. absurd (none v p there);
  only = λ v p has. inl has;
  still = λ v p has. has;
  no_other = λ v p has. inl has;
  lighter = omega arith;
}

-- All was met before.
pub meets_known : (sets : SetsOfVertices) (In : (v p : ℕ) → Type 0) (Opens : (v p : ℕ) → Type 0) → ((v p : ℕ) → In v p → IsMarked sets v p) → Meets sets sets In Opens
meets_known sets In Opens known = record {
  size = refl;
  columns = refl;
  kept = λ v p has. has;
  met = known;
  only = λ v p has. inl has;
  still = λ v p has. has;
  no_other = λ v p has. inl has;
  lighter = omega arith;
}

-- A word is met, where it is told of which of its vertices are to be opened.
pub meets_word : (old new : SetsOfVertices) (q c word opens : ℕ) (Opens : (v p : ℕ) → Type 0) → ((b : ℕ) → b < 64 → (bit_at opens b ≡ 1) ↔ Opens (c * 64 + b) q) → MeetsWord old new q c word opens → Meets old new (IsInWord q c word) Opens
meets_word old new q c word opens Opens told meets = record {
  size = meets.size;
  columns = meets.columns;
  kept = meets.kept;
  met = meets.met;
  only = λ v p has. by_only v p (meets.only v p has);
  still = meets.still;
  no_other = λ v p has. by_other v p (meets.no_other v p has);
  lighter = meets.lighter;
}
  where
    at : (v p : ℕ) → IsInWord q c word v p → (bit_at opens (v % 64) ≡ 1) ↔ Opens v p
    at v p there =
        let column = there.column in
        let small : v % 64 < 64 = omega arith in
        let place : c * 64 + v % 64 ≡ v = omega (arith, column) in
        subst (λ (k : ℕ). (bit_at opens (v % 64) ≡ 1) ↔ Opens v k) (sym there.position)
        (subst (λ (u : ℕ). (bit_at opens (v % 64) ≡ 1) ↔ Opens u q) place (told (v % 64) small))

    by_only : (v p : ℕ) → IsMarked old v p ⊎ (IsInWord q c word v p × (bit_at opens (v % 64) ≡ 1 → IsOpen new v p)) → IsMarked old v p ⊎ (IsInWord q c word v p × (Opens v p → IsOpen new v p))
    by_only v p (inl was) = inl was
    by_only v p (inr (there, is)) = inr (there, λ wanted. is ((at v p there).1 wanted))

    by_other : (v p : ℕ) → IsOpen old v p ⊎ (IsInWord q c word v p × (bit_at opens (v % 64) ≡ 1) × (¬ IsMarked old v p)) → IsOpen old v p ⊎ (IsInWord q c word v p × Opens v p × (¬ IsMarked old v p))
    by_other v p (inl was) = inl was
    by_other v p (inr (there, set, fresh)) = inr (there, (at v p there).0 set, fresh)

no_heavier : (a b c : ℕ) → a ≤ b → b ≤ c → a ≤ c
no_heavier a b c one other = omega (arith, one, other)

-- Both are met, one after the other.
pub meets_both : (old middle new : SetsOfVertices) (In In' Both : (v p : ℕ) → Type 0) (Opens : (v p : ℕ) → Type 0) → Meets old middle In Opens → Meets middle new In' Opens → ((v p : ℕ) → Both v p → In v p ⊎ In' v p) → ((v p : ℕ) → In v p → Both v p) → ((v p : ℕ) → In' v p → Both v p) → Meets old new Both Opens
meets_both old middle new In In' Both Opens one other apart first second = record {
  size = other.size ∙ one.size;
  columns = other.columns ∙ one.columns;
  kept = λ v p has. other.kept v p (one.kept v p has);
  met = λ v p there. by_met v p (apart v p there);
  only = λ v p has. by_only v p (other.only v p has);
  still = λ v p has. other.still v p (one.still v p has);
  no_other = λ v p has. by_other v p (other.no_other v p has);
  lighter = no_heavier (weight new) (weight middle) (weight old) other.lighter one.lighter;
}
  where
    by_met : (v p : ℕ) → In v p ⊎ In' v p → IsMarked new v p
    by_met v p (inl there) = other.kept v p (one.met v p there)
    by_met v p (inr there) = other.met v p there

    by_one : (v p : ℕ) → IsMarked old v p ⊎ (In v p × (Opens v p → IsOpen middle v p)) → IsMarked old v p ⊎ (Both v p × (Opens v p → IsOpen new v p))
    by_one v p (inl was) = inl was
    by_one v p (inr (there, opens)) = inr (first v p there, λ is. other.still v p (opens is))

    by_only : (v p : ℕ) → IsMarked middle v p ⊎ (In' v p × (Opens v p → IsOpen new v p)) → IsMarked old v p ⊎ (Both v p × (Opens v p → IsOpen new v p))
    by_only v p (inl was) = by_one v p (one.only v p was)
    by_only v p (inr (there, opens)) = inr (second v p there, opens)

    by_first : (v p : ℕ) → IsOpen old v p ⊎ (In v p × Opens v p × (¬ IsMarked old v p)) → IsOpen old v p ⊎ (Both v p × Opens v p × (¬ IsMarked old v p))
    by_first v p (inl was) = inl was
    by_first v p (inr (there, opens, fresh)) = inr (first v p there, opens, fresh)

    by_other : (v p : ℕ) → IsOpen middle v p ⊎ (In' v p × Opens v p × (¬ IsMarked middle v p)) → IsOpen old v p ⊎ (Both v p × Opens v p × (¬ IsMarked old v p))
    by_other v p (inl was) = by_first v p (one.no_other v p was)
    by_other v p (inr (there, opens, fresh)) = inr (second v p there, opens, λ was. fresh (one.kept v p was))

-- The same pairs, said in another way.
pub meets_same : (old new : SetsOfVertices) (In In' : (v p : ℕ) → Type 0) (Opens Opens' : (v p : ℕ) → Type 0) → Meets old new In Opens → ((v p : ℕ) → In v p → In' v p) → ((v p : ℕ) → In' v p → In v p) → ((v p : ℕ) → In v p → Opens v p → Opens' v p) → ((v p : ℕ) → In v p → Opens' v p → Opens v p) → Meets old new In' Opens'
meets_same old new In In' Opens Opens' meets to of opens_to opens_of = record {
  size = meets.size;
  columns = meets.columns;
  kept = meets.kept;
  met = λ v p there. meets.met v p (of v p there);
  only = λ v p has. by_only v p (meets.only v p has);
  still = meets.still;
  no_other = λ v p has. by_other v p (meets.no_other v p has);
  lighter = meets.lighter;
}
  where
    by_only : (v p : ℕ) → IsMarked old v p ⊎ (In v p × (Opens v p → IsOpen new v p)) → IsMarked old v p ⊎ (In' v p × (Opens' v p → IsOpen new v p))
    by_only v p (inl was) = inl was
    by_only v p (inr (there, opens)) = inr (to v p there, λ is. opens (opens_of v p there is))

    by_other : (v p : ℕ) → IsOpen old v p ⊎ (In v p × Opens v p × (¬ IsMarked old v p)) → IsOpen old v p ⊎ (In' v p × Opens' v p × (¬ IsMarked old v p))
    by_other v p (inl was) = inl was
    by_other v p (inr (there, opens, fresh)) = inr (to v p there, opens_to v p there opens, fresh)
