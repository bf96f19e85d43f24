-- Pairs that are no shifts, counted one by one.
use Rattle.rbg_base.proofs.Common.{◌≡◌, ◌≢◌, ℕ, ◌+◌, List, [], ◌∷◌, ◌++◌, length, refl, ap, ◌∙◌, subst, inl, inr, arith, Contains, Contains-append_left, Contains-get_or, Contains-push, Contains-push_cases}
use Rattle.std.proofs.lemmas.List.{length-append}
use Rattle.std.proofs.lemmas.List.Quantifiers.{all_pairs_push}
use Rattle.rbg_rules.specs.Meaning.{Expression}
use Rattle.rbg_shifts.specs.Leaps.{IsShiftAt}
use Rattle.rbg_search.specs.Plain.{HasPlain}

nothing_in : (x : ℕ × ℕ) → ¬ Contains [] x
nothing_in x (k, under, there) = absurd (omega (arith, under))

pub plain_none : (rules : Expression) → HasPlain rules [] 0
plain_none rules = record {
  plain = [];
  all = λ v p. ((λ there. absurd (nothing_in (v, p) there)), (λ both. absurd (nothing_in (v, p) both.0)));
  different = λ i j d less within. absurd (omega (arith, within));
  count = refl;
  few = omega arith;
}

module _ (rules : Expression) (pairs : List (ℕ × ℕ)) (many v p : ℕ) (has : HasPlain rules pairs many) where
  longer : length (pairs ++ (v, p) ∷ []) ≡ length pairs + 1
  longer = length-append pairs ((v, p) ∷ [])

  pub plain_more : ¬ Contains pairs (v, p) → ¬ IsShiftAt rules p → HasPlain rules (pairs ++ (v, p) ∷ []) (many + 1)
  plain_more fresh plain = record {
    plain = has.plain ++ (v, p) ∷ [];
    all = λ w q. (to w q, from w q);
    different = all_pairs_push (λ a b. a ≢ b) has.plain (v, p) has.different (λ k d under same. fresh ((has.all v p).0 (subst (Contains has.plain) same (Contains-get_or has.plain k d under))).0);
    count = length-append has.plain ((v, p) ∷ []) ∙ ap (λ (n : ℕ). n + 1) has.count;
    few = omega (arith, has.few, longer);
  }
    where
      to : (w q : ℕ) → Contains (has.plain ++ (v, p) ∷ []) (w, q) → Contains (pairs ++ (v, p) ∷ []) (w, q) × ¬ IsShiftAt rules q
      to w q there = elim (Contains-push_cases has.plain (v, p) (w, q) there) [
        | inl earlier ↦ (let both = (has.all w q).0 earlier in (Contains-append_left pairs ((v, p) ∷ []) (w, q) both.0, both.1))
        | inr same ↦ subst (λ (x : ℕ × ℕ). Contains (pairs ++ (v, p) ∷ []) x × ¬ IsShiftAt rules x.1) same (Contains-push pairs (v, p), plain)
      ]

      from : (w q : ℕ) → Contains (pairs ++ (v, p) ∷ []) (w, q) × ¬ IsShiftAt rules q → Contains (has.plain ++ (v, p) ∷ []) (w, q)
      from w q both = elim (Contains-push_cases pairs (v, p) (w, q) both.0) [
        | inl earlier ↦ Contains-append_left has.plain ((v, p) ∷ []) (w, q) ((has.all w q).1 (earlier, both.1))
        | inr same ↦ subst (Contains (has.plain ++ (v, p) ∷ [])) same (Contains-push has.plain (v, p))
      ]

  pub plain_same : IsShiftAt rules p → HasPlain rules (pairs ++ (v, p) ∷ []) many
  plain_same shifts = record {
    plain = has.plain;
    all = λ w q. (
      (λ there. let both = (has.all w q).0 there in (Contains-append_left pairs ((v, p) ∷ []) (w, q) both.0, both.1)),
      (λ both. elim (Contains-push_cases pairs (v, p) (w, q) both.0) [
        | inl earlier ↦ (has.all w q).1 (earlier, both.1)
        | inr same ↦ absurd (both.1 (subst (λ (x : ℕ × ℕ). IsShiftAt rules x.1) same shifts))
      ]),
    );
    different = has.different;
    count = has.count;
    few = omega (arith, has.few, longer);
  }
