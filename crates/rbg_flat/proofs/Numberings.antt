-- There are no more pairs than numbers for them.
use Rattle.rbg_base.proofs.Common.{◌≡◌, ◌≢◌, ℕ, ◌+◌, ◌-◌, ◌*◌, ◌/◌, ◌%◌, ◌<◌, ◌≤◌, List, map, length, get_or, suc, zero, true, sym, ap, ◌∙◌, arith, All, AllPairs, Contains, nat_eq, list_any, IsDistinct, div-mul-add, mod-mul-add, Decides-eqb, get_or-map, length-map}
use Rattle.std.proofs.lemmas.Bool.{eqb-true}
use Rattle.std.proofs.lemmas.Map.Made.{IsDistinct-from_AllPairs}
use Rattle.std.proofs.lemmas.Map.Steps.{length-le_from_distinct_below}
use Rattle.std.proofs.lemmas.Map.Views.{Contains-from_any}

-- A number is one pair's.
pub one_pair : (n v w p q : ℕ) → v < n → w < n → p * n + v ≡ q * n + w → ◌≡◌ {A = ℕ × ℕ} (v, p) (w, q)
one_pair n v w p q first second same =
    let positions : p ≡ q = sym (div-mul-add p n v first) ∙ ap (λ (x : ℕ). x / n) same ∙ div-mul-add q n w second in
    let vertices : v ≡ w = sym (mod-mul-add p n v first) ∙ ap (λ (x : ℕ). x % n) same ∙ mod-mul-add q n w second in
    λ i. (vertices i, positions i)

-- The pair of a vertex and a position from 1 on has a number below the size, where each position has n numbers from that
-- of vertex 0 on.
pub record HasNumber (n size : ℕ) (q : ℕ × ℕ) : Type 0 where
  pub vertex : q.0 < n
  pub from_one : 0 < q.1
  pub below : q.1 * n + q.0 < size

-- the number of a pair among those of the positions from 1 on
abbrev number : ℕ → ℕ × ℕ → ℕ
number n q = q.1 * n + q.0 - n

-- a row is no longer than that of a position from 1 on
row_before : (n p : ℕ) → 0 < p → n ≤ p * n
row_before n zero some = absurd (omega (arith, some))
row_before n (suc p) some = grind arith

module _ (n size : ℕ) (pairs : List (ℕ × ℕ)) (different : AllPairs (λ a b. a ≢ b) pairs) (within : All (HasNumber n size) pairs) where
  differ : (i j : ℕ) (e : ℕ) → i < j → j < length (map (number n) pairs) → get_or (map (number n) pairs) i e ≢ get_or (map (number n) pairs) j e
  differ i j e before below same =
      let long = length-map pairs (number n) in
      let d : ℕ × ℕ = (0, 0) in
      let at_j : j < length pairs = omega (arith, below, long) in
      let at_i : i < length pairs = omega (arith, at_j, before) in
      let q : ℕ × ℕ = get_or pairs i d in
      let r : ℕ × ℕ = get_or pairs j d in
      let has_q : HasNumber n size q = within i d at_i in
      let has_r : HasNumber n size r = within j d at_j in
      let is_q : get_or (map (number n) pairs) i e ≡ q.1 * n + q.0 - n = get_or-map (number n) pairs i d e at_i in
      let is_r : get_or (map (number n) pairs) j e ≡ r.1 * n + r.0 - n = get_or-map (number n) pairs j d e at_j in
      let least_q = row_before n q.1 has_q.from_one in
      let least_r = row_before n r.1 has_r.from_one in
      let sums : q.1 * n + q.0 ≡ r.1 * n + r.0 = omega (arith, same, is_q, is_r, least_q, least_r) in
      different i j d before at_j (one_pair n q.0 r.0 q.1 r.1 has_q.vertex has_r.vertex sums)

  below_all : (x : ℕ) → Contains (map (number n) pairs) x → x < size - n
  below_all x (i, below, is) =
      let long = length-map pairs (number n) in
      let d : ℕ × ℕ = (0, 0) in
      let at_i : i < length pairs = omega (arith, below, long) in
      let q : ℕ × ℕ = get_or pairs i d in
      let has_q : HasNumber n size q = within i d at_i in
      let is_q : get_or (map (number n) pairs) i x ≡ q.1 * n + q.0 - n = get_or-map (number n) pairs i d x at_i in
      let least_q = row_before n q.1 has_q.from_one in
      let under = has_q.below in
      omega (arith, is, is_q, least_q, under)

  pub few_pairs : length pairs ≤ size - n
  few_pairs =
      let distinct : IsDistinct nat_eq (map (number n) pairs) = IsDistinct-from_AllPairs Decides-eqb (map (number n) pairs) differ in
      let all : (x : ℕ) → list_any (nat_eq x) (map (number n) pairs) ≡ true → x < size - n = λ x any. below_all x (Contains-from_any eqb-true x (map (number n) pairs) any) in
      let short = length-le_from_distinct_below (map (number n) pairs) (size - n) distinct all in
      omega (arith, short, length-map pairs (number n))
