-- Whether a pair is among modifiers that are kept by words.
use Rattle.rbg_base.proofs.Common.{◌≡◌, ℕ, ◌+◌, ◌-◌, ◌<◌, ◌≤◌, List, All, Contains, true, false, length, take, get_or, sym, ap, subst, arith, take_more, All-contains, All-push, Contains-get_or, bit_at}
use Rattle.rbg_flat.proofs.Common.{pairs_of, pairs_in, Word}
use Rattle.rbg_flat.proofs.Spellings.{IsPairOf, pair_of, pair_there, in_flat, of_flat}

module _ (w : Word) (v p : ℕ) where
  vertex_of : (there : Contains (pairs_of w) (v, p)) → w.base + (pair_of w (v, p) there).bit ≡ v
  vertex_of there = ap (λ (q : ℕ × ℕ). q.0) (pair_of w (v, p) there).is

  pub not_below : v < w.base → ¬ Contains (pairs_of w) (v, p)
  not_below below there = let same = vertex_of there in omega (arith, below, same)

  pub bit_there : w.position ≡ p → w.base ≤ v → (v - w.base < 64) × (bit_at w.bits (v - w.base) ≡ 1) → Contains (pairs_of w) (v, p)
  bit_there position from is =
      let vertex : w.base + (v - w.base) ≡ v = omega (arith, from) in
      subst (Contains (pairs_of w)) (λ i. (vertex i, position i)) (pair_there w (v - w.base) is.0 is.1)

  pub there_bit : Contains (pairs_of w) (v, p) → (v - w.base < 64) × (bit_at w.bits (v - w.base) ≡ 1)
  there_bit there =
      let pair : IsPairOf w (v, p) = pair_of w (v, p) there in
      let same = vertex_of there in
      let bit : pair.bit ≡ v - w.base = omega (arith, same) in
      subst (λ (b : ℕ). (b < 64) × (bit_at w.bits b ≡ 1)) bit (pair.below, pair.set_there)

pub in_none : (words : List Word) (q : ℕ × ℕ) → All (λ (w : Word). ¬ Contains (pairs_of w) q) words → ¬ Contains (pairs_in words) q
in_none words q none there =
    let found = in_flat words q there in
    All-contains (λ (w : Word). ¬ Contains (pairs_of w) q) words found.0 none found.1 found.2

false_not_true : false ≡ true → ⊥
false_not_true e = cc

pub none_there : (P : Type 0) → ¬ P → (false ≡ true → P) × (P → false ≡ true)
none_there P never = ((λ e. absurd (false_not_true e)), (λ there. absurd (never there)))

-- One word more.
module _ (words : List Word) (k : ℕ) (d : Word) (under : k < length words) (q : ℕ × ℕ) where
  pub in_word : Contains (pairs_of (get_or words k d)) q → Contains (pairs_in words) q
  in_word there = of_flat words (get_or words k d) q (Contains-get_or words k d under) there

  pub none_yet : (Contains (pairs_of (get_or words k d)) q → false ≡ true) → All (λ (w : Word). ¬ Contains (pairs_of w) q) (take k words) → All (λ (w : Word). ¬ Contains (pairs_of w) q) (take (k + 1) words)
  none_yet never none =
      subst (All (λ (w : Word). ¬ Contains (pairs_of w) q)) (sym (take_more words k d under))
      (All-push (λ (w : Word). ¬ Contains (pairs_of w) q) (take k words) (get_or words k d) none (λ there. false_not_true (never there)))
