-- Targets of leaps, one after another.
use Rattle.rbg_base.proofs.Common.{◌≡◌, ℕ, ◌+◌, ◌<◌, ◌⊎◌, inl, inr, List, [], ◌∷◌, ◌++◌, length, get_or, take, sym, subst, arith, Contains, take_more, Contains-push, Contains-push_cases, Contains-append_left}
use Rattle.rbg_shifts.specs.declared.target.Target.{Target}
use Rattle.rbg_flat.proofs.Common.{SetsOfVertices, IsInWord, Meets, IsAmong}
use Rattle.rbg_flat.proofs.Meetings.{meets_both}

pub none_among : (v p : ℕ) → ¬ IsAmong [] v p
none_among v p among = no_index among.listed.0 among.listed.1
  where
    no_index : (k : ℕ) → k < 0 → ⊥
    no_index k h = omega (arith, h)

-- One target more.
module _ (targets : List Target) (i : ℕ) (d : Target) (below : i < length targets) where
  abbrev t : Target
  t = get_or targets i d

  pub one_more : take (i + 1) targets ≡ take i targets ++ t ∷ []
  one_more = take_more targets i d below

  pub among_apart : (v p : ℕ) → IsAmong (take (i + 1) targets) v p → IsAmong (take i targets) v p ⊎ IsInWord t.position t.column t.word v p
  among_apart v p among = by_case (Contains-push_cases (take i targets) t among.target (subst (λ (ts : List Target). Contains ts among.target) one_more among.listed))
    where
      by_case : Contains (take i targets) among.target ⊎ (t ≡ among.target) → IsAmong (take i targets) v p ⊎ IsInWord t.position t.column t.word v p
      by_case (inl there) = inl (record { target = among.target; listed = there; there = among.there })
      by_case (inr same) = inr (subst (λ (x : Target). IsInWord x.position x.column x.word v p) (sym same) among.there)

  pub among_first : (v p : ℕ) → IsAmong (take i targets) v p → IsAmong (take (i + 1) targets) v p
  among_first v p among = record {
    target = among.target;
    listed = subst (λ (ts : List Target). Contains ts among.target) (sym one_more) (Contains-append_left (take i targets) (t ∷ []) among.target among.listed);
    there = among.there;
  }

  pub among_second : (v p : ℕ) → IsInWord t.position t.column t.word v p → IsAmong (take (i + 1) targets) v p
  among_second v p row = record { target = t; listed = subst (λ (ts : List Target). Contains ts t) (sym one_more) (Contains-push (take i targets) t); there = row }

  pub meets_target_more : (old middle new : SetsOfVertices) (Opens : (v p : ℕ) → Type 0) → Meets old middle (IsAmong (take i targets)) Opens → Meets middle new (IsInWord t.position t.column t.word) Opens → Meets old new (IsAmong (take (i + 1) targets)) Opens
  meets_target_more old middle new Opens so_far row =
      meets_both old middle new (IsAmong (take i targets)) (IsInWord t.position t.column t.word) (IsAmong (take (i + 1) targets)) Opens
      so_far row among_apart among_first among_second
