-- Words of rows: bits that are set and cleared.
use Rattle.rbg_base.proofs.Common.{◌≡◌, ◌≢◌, ℕ, zero, suc, ◌+◌, ◌*◌, ◌/◌, ◌%◌, ◌<◌, ◌≤◌, ◌^◌, ◌-◌, ◌⊎◌, inl, inr, List, length, get_or, refl, sym, ap, subst, ◌∙◌, slice_set, arith, bit_or, bit_and, min, bit_at, bit_not, w64, div-mul-add, or_disjoint, or_lt, and_le_l, cases_lt, bit_at-zero, bit_at-lt, bit_at_and, bit_at_not, bit_at_above, same_from_bits, ℕ_discrete}
use Rattle.std.specs.Int.Bits.{or_add_and}
use Rattle.std.proofs.lemmas.List.{get_or-set_same, get_or-set_other}
use Rattle.rbg_shifts.proofs.Bits.{either_bit, first_bit, second_bit}
use Rattle.rbg_flat.specs.internal.Sets.{HasBitAt, IsInWord}

-- A bit of what two numbers share is a bit of both.
pub bit_of_first : (a b k : ℕ) → bit_at (bit_and a b) k ≡ 1 → bit_at a k ≡ 1
bit_of_first a b k is =
    let least : min (bit_at a k) (bit_at b k) ≡ 1 = sym (bit_at_and a b k) ∙ is in
    let small = bit_at-lt a k in
    grind (arith, least, small)

-- A bit of a number is one of what is left of it, or one of what was taken away.
pub left_or_taken : (a b k : ℕ) → b < 2 ^ 64 → k < 64 → bit_at a k ≡ 1 → (bit_at (bit_and a (bit_not w64 b)) k ≡ 1) ⊎ (bit_at b k ≡ 1)
left_or_taken a b k fits within is = by_bit (bit_at b k) refl (bit_at-lt b k)
  where
    rest : bit_at (bit_not w64 b) k ≡ 1 - bit_at b k
    rest = bit_at_not w64 b k fits within

    by_bit : (x : ℕ) → bit_at b k ≡ x → x < 2 → (bit_at (bit_and a (bit_not w64 b)) k ≡ 1) ⊎ (bit_at b k ≡ 1)
    by_bit zero none small =
        let other : bit_at (bit_not w64 b) k ≡ 1 = rest ∙ ap (λ (n : ℕ). 1 - n) none in
        inl (bit_at_and a (bit_not w64 b) k ∙ ap (λ (n : ℕ). min n (bit_at (bit_not w64 b) k)) is ∙ ap (λ (n : ℕ). min 1 n) other)
    by_bit (suc zero) some small = inr some
    by_bit (suc (suc x)) some small = absurd (omega (arith, small))

-- The word of the row of position q in column c.
module _ (columns : ℕ) (words : List ℕ) (place q c : ℕ) (is : place ≡ q * columns + c) (below : c < columns) (within : place < length words) where
  at_place : (v p : ℕ) → v / 64 < columns → p * columns + v / 64 ≡ place → (p ≡ q) × (v / 64 ≡ c)
  at_place v p column same =
      let whole : p * columns + v / 64 ≡ q * columns + c = same ∙ is in
      let positions : p ≡ q = sym (div-mul-add p columns (v / 64) column) ∙ ap (λ (k : ℕ). k / columns) whole ∙ div-mul-add q columns c below in
      let products : p * columns ≡ q * columns = ap (λ (k : ℕ). k * columns) positions in
      (positions, omega (arith, whole, products))

  pub of_word : (x v p : ℕ) → IsInWord q c x v p → p * columns + v / 64 ≡ place
  of_word x v p there = ap (λ (k : ℕ). k * columns + v / 64) there.position ∙ ap (λ (k : ℕ). q * columns + k) there.column ∙ sym is

  -- the word at the place, after it got this value
  at_new : (n v p : ℕ) → p * columns + v / 64 ≡ place → get_or (slice_set words place n) (p * columns + v / 64) 0 ≡ n
  at_new n v p same = ap (λ (k : ℕ). get_or (slice_set words place n) k 0) same ∙ get_or-set_same words place n 0 within

  pub at_old : (v p : ℕ) → p * columns + v / 64 ≡ place → get_or words (p * columns + v / 64) 0 ≡ get_or words place 0
  at_old v p same = ap (λ (k : ℕ). get_or words k 0) same

  changed : (n v p : ℕ) → HasBitAt columns (slice_set words place n) v p → (HasBitAt columns words v p × (p * columns + v / 64 ≢ place)) ⊎ ((p * columns + v / 64 ≡ place) × (bit_at n (v % 64) ≡ 1))
  changed n v p has = elim (ℕ_discrete (p * columns + v / 64) place) [
    | yes same ↦ inr (same, sym (ap (λ (k : ℕ). bit_at k (v % 64)) (at_new n v p same)) ∙ has.set)
    | no other ↦ inl (record { column = has.column; set = sym (ap (λ (k : ℕ). bit_at k (v % 64)) (get_or-set_other words place (p * columns + v / 64) n 0 other)) ∙ has.set }, other)
  ]

  in_new : (n v p : ℕ) → v / 64 < columns → p * columns + v / 64 ≡ place → bit_at n (v % 64) ≡ 1 → HasBitAt columns (slice_set words place n) v p
  in_new n v p column same set = record { column = column; set = ap (λ (k : ℕ). bit_at k (v % 64)) (at_new n v p same) ∙ set }

  elsewhere : (n v p : ℕ) → HasBitAt columns words v p → p * columns + v / 64 ≢ place → HasBitAt columns (slice_set words place n) v p
  elsewhere n v p has other = record { column = has.column; set = ap (λ (k : ℕ). bit_at k (v % 64)) (get_or-set_other words place (p * columns + v / 64) n 0 other) ∙ has.set }

  pub in_word : (n v p : ℕ) → v / 64 < columns → p * columns + v / 64 ≡ place → bit_at n (v % 64) ≡ 1 → IsInWord q c n v p
  in_word n v p column same set = let at = at_place v p column same in record { position = at.0; column = at.1; set = set }

  abbrev word : ℕ
  word = get_or words place 0

  -- Bits are added.
  pub added_to : (x v p : ℕ) → HasBitAt columns (slice_set words place (bit_or word x)) v p → HasBitAt columns words v p ⊎ IsInWord q c x v p
  added_to x v p has = by_case (changed (bit_or word x) v p has)
    where
      by_bit : p * columns + v / 64 ≡ place → (bit_at word (v % 64) ≡ 1) ⊎ (bit_at x (v % 64) ≡ 1) → HasBitAt columns words v p ⊎ IsInWord q c x v p
      by_bit same (inl was) = inl (record { column = has.column; set = ap (λ (k : ℕ). bit_at k (v % 64)) (at_old v p same) ∙ was })
      by_bit same (inr set) = inr (in_word x v p has.column same set)

      by_case : (HasBitAt columns words v p × (p * columns + v / 64 ≢ place)) ⊎ ((p * columns + v / 64 ≡ place) × (bit_at (bit_or word x) (v % 64) ≡ 1)) → HasBitAt columns words v p ⊎ IsInWord q c x v p
      by_case (inl was) = inl was.0
      by_case (inr (same, set)) = by_bit same (either_bit word x (v % 64) set)

  pub added_old : (x v p : ℕ) → HasBitAt columns words v p → HasBitAt columns (slice_set words place (bit_or word x)) v p
  added_old x v p has = elim (ℕ_discrete (p * columns + v / 64) place) [
    | yes same ↦ in_new (bit_or word x) v p has.column same (first_bit word x (v % 64) (sym (ap (λ (k : ℕ). bit_at k (v % 64)) (at_old v p same)) ∙ has.set))
    | no other ↦ elsewhere (bit_or word x) v p has other
  ]

  pub added_new : (x v p : ℕ) → IsInWord q c x v p → HasBitAt columns (slice_set words place (bit_or word x)) v p
  added_new x v p there = in_new (bit_or word x) v p (subst (λ (k : ℕ). k < columns) (sym there.column) below) (of_word x v p there) (second_bit word x (v % 64) there.set)

  -- Bits are taken away.
  pub taken_of : (x v p : ℕ) → HasBitAt columns (slice_set words place (bit_and word (bit_not w64 x))) v p → HasBitAt columns words v p
  taken_of x v p has = by_case (changed (bit_and word (bit_not w64 x)) v p has)
    where
      by_case : (HasBitAt columns words v p × (p * columns + v / 64 ≢ place)) ⊎ ((p * columns + v / 64 ≡ place) × (bit_at (bit_and word (bit_not w64 x)) (v % 64) ≡ 1)) → HasBitAt columns words v p
      by_case (inl was) = was.0
      by_case (inr (same, set)) = record { column = has.column; set = ap (λ (k : ℕ). bit_at k (v % 64)) (at_old v p same) ∙ bit_of_first word (bit_not w64 x) (v % 64) set }

  pub taken_left : (x v p : ℕ) → x < 2 ^ 64 → HasBitAt columns words v p → HasBitAt columns (slice_set words place (bit_and word (bit_not w64 x))) v p ⊎ IsInWord q c x v p
  taken_left x v p fits has = elim (ℕ_discrete (p * columns + v / 64) place) [
    | yes same ↦ by_bit same (left_or_taken word x (v % 64) fits (omega arith) (sym (ap (λ (k : ℕ). bit_at k (v % 64)) (at_old v p same)) ∙ has.set))
    | no other ↦ inl (elsewhere (bit_and word (bit_not w64 x)) v p has other)
  ]
    where
      by_bit : p * columns + v / 64 ≡ place → (bit_at (bit_and word (bit_not w64 x)) (v % 64) ≡ 1) ⊎ (bit_at x (v % 64) ≡ 1) → HasBitAt columns (slice_set words place (bit_and word (bit_not w64 x))) v p ⊎ IsInWord q c x v p
      by_bit same (inl set) = inl (in_new (bit_and word (bit_not w64 x)) v p has.column same set)
      by_bit same (inr set) = inr (in_word x v p has.column same set)

  pub taken_gone : (x v p : ℕ) → x < 2 ^ 64 → IsInWord q c x v p → ¬ HasBitAt columns (slice_set words place (bit_and word (bit_not w64 x))) v p
  taken_gone x v p fits there has =
      let same = of_word x v p there in
      let set : bit_at (bit_and word (bit_not w64 x)) (v % 64) ≡ 1 = sym (ap (λ (k : ℕ). bit_at k (v % 64)) (at_new (bit_and word (bit_not w64 x)) v p same)) ∙ has.set in
      let both = bit_at_and word (bit_not w64 x) (v % 64) in
      let other : bit_at (bit_not w64 x) (v % 64) ≡ 1 - bit_at x (v % 64) = bit_at_not w64 x (v % 64) fits (omega arith) in
      none_left (bit_at word (v % 64)) (bit_at (bit_not w64 x) (v % 64)) (sym both ∙ set) (other ∙ ap (λ (n : ℕ). 1 - n) there.set)
    where
      none_left : (a b : ℕ) → min a b ≡ 1 → b ≡ 0 → ⊥
      none_left a b least none = grind (arith, least, none)

  -- A word's bits are in the row, or new to it.
  pub known_or_new : (x n v p : ℕ) → ((b : ℕ) → b < 64 → bit_at x b ≡ 1 → (bit_at word b ≡ 1) ⊎ (bit_at n b ≡ 1)) → IsInWord q c x v p → HasBitAt columns words v p ⊎ IsInWord q c n v p
  known_or_new x n v p all there = by_bit (all (v % 64) (omega arith) there.set)
    where
      column : v / 64 < columns
      column = subst (λ (k : ℕ). k < columns) (sym there.column) below

      by_bit : (bit_at word (v % 64) ≡ 1) ⊎ (bit_at n (v % 64) ≡ 1) → HasBitAt columns words v p ⊎ IsInWord q c n v p
      by_bit (inr set) = inr (record { position = there.position; column = there.column; set = set })
      by_bit (inl was) = inl (record { column = column; set = ap (λ (k : ℕ). bit_at k (v % 64)) (at_old v p (of_word x v p there)) ∙ was })

pub new_in_word : (q c x n v p : ℕ) → ((b : ℕ) → bit_at n b ≡ 1 → bit_at x b ≡ 1) → IsInWord q c n v p → IsInWord q c x v p
new_in_word q c x n v p only there = record { position = there.position; column = there.column; set = only (v % 64) there.set }

-- What is left of a number shares no bit with what was taken away.
pub apart : (a b : ℕ) → b < 2 ^ 64 → bit_and b (bit_and a (bit_not w64 b)) ≡ 0
apart a b fits = same_from_bits (bit_and b (bit_and a (bit_not w64 b))) 0 (λ i. by_place i (cases_lt i 64) ∙ sym (bit_at-zero i))
  where
    whole : (i : ℕ) → bit_at (bit_and b (bit_and a (bit_not w64 b))) i ≡ min (bit_at b i) (min (bit_at a i) (bit_at (bit_not w64 b) i))
    whole i = bit_at_and b (bit_and a (bit_not w64 b)) i ∙ ap (λ (n : ℕ). min (bit_at b i) n) (bit_at_and a (bit_not w64 b) i)

    by_place : (i : ℕ) → (i < 64) ⊎ (64 ≤ i) → bit_at (bit_and b (bit_and a (bit_not w64 b))) i ≡ 0
    by_place i (inl below) =
        let other = bit_at_not w64 b i fits below in
        let one = bit_at-lt b i in
        let all = whole i in
        grind (arith, other, one, all)
    by_place i (inr above) =
        let none = bit_at_above b 64 i fits above in
        let all = whole i in
        grind (arith, none, all)

pub new_sum : (word known : ℕ) → known < 2 ^ 64 → bit_or known (bit_and word (bit_not w64 known)) ≡ known + bit_and word (bit_not w64 known)
new_sum word known fits = or_disjoint known (bit_and word (bit_not w64 known)) (apart word known fits)

pub new_fits : (word known : ℕ) → word < 2 ^ 64 → known < 2 ^ 64 → known + bit_and word (bit_not w64 known) < 2 ^ 64
new_fits word known small fits =
    let sum = new_sum word known fits in
    let part = and_le_l word (bit_not w64 known) in
    let below = or_lt 64 known (bit_and word (bit_not w64 known)) fits (omega (arith, part, small)) in
    subst (λ (n : ℕ). n < 2 ^ 64) sum below

pub or_at_most : (a b : ℕ) → bit_or a b ≤ a + b
or_at_most a b = let all = or_add_and a b in omega (arith, all)

-- Where a bit is taken away, less is left.
pub less_left : (a b k : ℕ) → b < 2 ^ 64 → k < 64 → bit_at a k ≡ 1 → bit_at b k ≡ 1 → bit_and a (bit_not w64 b) < a
less_left a b k fits within here taken = elim (ℕ_discrete (bit_and a (bit_not w64 b)) a) [
  | yes same ↦
      let kept : bit_at (bit_and a (bit_not w64 b)) k ≡ 1 = ap (λ (n : ℕ). bit_at n k) same ∙ here in
      let other = bit_at_not w64 b k fits within in
      let both = bit_at_and a (bit_not w64 b) k in
      absurd (no_bit_left kept both other)
  | no apart ↦
      let most = and_le_l a (bit_not w64 b) in
      strictly most apart
]
  where
    strictly : {x y : ℕ} → x ≤ y → ¬ (x ≡ y) → x < y
    strictly {x} {y} most apart = elim (cases_lt x y) [
      | inl less ↦ less
      | inr no_less ↦ absurd (apart (omega (arith, most, no_less)))
    ]

    no_bit_left : bit_at (bit_and a (bit_not w64 b)) k ≡ 1 → bit_at (bit_and a (bit_not w64 b)) k ≡ min (bit_at a k) (bit_at (bit_not w64 b) k) → bit_at (bit_not w64 b) k ≡ 1 - bit_at b k → ⊥
    no_bit_left kept both other =
        let second : bit_at (bit_not w64 b) k ≡ 0 = other ∙ ap (λ (n : ℕ). 1 - n) taken in
        grind (arith, kept, both, second)

-- A bit of a word in a column is that of a vertex.
pub bit_there : (columns : ℕ) (pending : List ℕ) (p column word bit : ℕ) → column < columns → word ≡ get_or pending (p * columns + column) 0 → bit < 64 → bit_at word bit ≡ 1 → HasBitAt columns pending (column * 64 + bit) p
bit_there columns pending p column word bit below is small set =
    let first : (column * 64 + bit) / 64 ≡ column = omega (arith, small) in
    let second : (column * 64 + bit) % 64 ≡ bit = omega (arith, small) in
    record {
      column = rw first below;
      set = rw (first, second) (sym (ap (λ (n : ℕ). bit_at n bit) is) ∙ set);
    }
