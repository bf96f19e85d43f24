-- A piece is on as many vertices as its row has bits.
use Rattle.rbg_base.proofs.Common.{◌≡◌, ℕ, zero, suc, ◌+◌, ◌*◌, ◌/◌, ◌%◌, ◌^◌, ◌<◌, ◌≤◌, ◌==◌, inl, inr, List, length, get_or, take, Some, sym, ap, subst, ◌∙◌, arith, ◌↔◌, count_by, count_ones, slice_get, bit_at, count_by_more_yes, count_by_more_no, ones_le_self, bit_at_lowest, bit_at-suc, slice_get-get_or, get_or_from_slice_get, slice_get_within, ℕ_discrete}
use Rattle.std.specs.Int.Count.{ones_step}
use Rattle.std.proofs.lemmas.Bool.{cases_lt, eq-eqb, eqb-true, false_from_ne_true}
use Rattle.std.proofs.lemmas.List.{take_all}
use Rattle.std.proofs.Math.Nat.{pow-suc}
use Rattle.rbg_state.specs.Rows.{IsWordOf}

-- how many of the first vertices hold a piece
abbrev pub held_by : (x : ℕ) → (pieces : List ℕ) → (n : ℕ) → ℕ
held_by x pieces n = count_by (λ y. y == x) (take n pieces)

-- one vertex more
one_more : (x : ℕ) (pieces : List ℕ) (n r : ℕ) → r < 2 → (r ≡ 1) ↔ (slice_get pieces n ≡ Some x) → held_by x pieces (n + 1) ≡ held_by x pieces n + r
one_more x pieces n r small told = elim (cases_lt n (length pieces)) [
  | inr far ↦
      let none : r ≡ 0 = no_bit (λ set. beyond far (slice_get_within pieces n x (told.0 set))) in
      let all : take (n + 1) pieces ≡ take n pieces = take_all (n + 1) pieces (omega (arith, far)) ∙ sym (take_all n pieces far) in
      let same : held_by x pieces (n + 1) ≡ held_by x pieces n = ap (count_by (λ y. y == x)) all in
      omega (arith, none, same)
  | inl near ↦ elim (ℕ_discrete (get_or pieces n 0) x) [
    | yes is ↦
        let one = told.1 (slice_get-get_or pieces n 0 near ∙ ap Some is) in
        let more = count_by_more_yes (λ y. y == x) pieces n 0 near (eq-eqb (get_or pieces n 0) x is) in
        omega (arith, one, more)
    | no other ↦
        let none : r ≡ 0 = no_bit (λ set. other (get_or_from_slice_get pieces n x 0 (told.0 set))) in
        let same = count_by_more_no (λ y. y == x) pieces n 0 near (false_from_ne_true (get_or pieces n 0 == x) (λ is. other (eqb-true (get_or pieces n 0) x is))) in
        omega (arith, none, same)
  ]
]
  where
    no_bit : (r ≡ 1 → ⊥) → r ≡ 0
    no_bit not = elim (ℕ_discrete r 1) [
      | yes is ↦ absurd (not is)
      | no other ↦ omega (arith, small, other)
    ]

    beyond : length pieces ≤ n → n < length pieces → ⊥
    beyond far near = omega (arith, far, near)

-- as many vertices more as a word has bits
bits_more : (x : ℕ) (pieces : List ℕ) (k n w : ℕ) → w < 2 ^ k → ((b : ℕ) → b < k → (bit_at w b ≡ 1) ↔ (slice_get pieces (n + b) ≡ Some x)) → held_by x pieces (n + k) ≡ held_by x pieces n + count_ones w
bits_more x pieces zero n w small told =
    let few = ones_le_self w in
    let same : held_by x pieces (n + 0) ≡ held_by x pieces n = ap (held_by x pieces) (omega arith) in
    omega (arith, few, small, same)
bits_more x pieces (suc k) n w small told =
    let power : 2 ^ suc k ≡ 2 ^ k * 2 = pow-suc 2 k in
    let half : w / 2 < 2 ^ k = omega (arith, small, power) in
    let first = one_more x pieces n (w % 2) (omega arith) lowest in
    let rest = bits_more x pieces k (n + 1) (w / 2) half later in
    let ones = ones_step w in
    let same : held_by x pieces (n + suc k) ≡ held_by x pieces (n + 1 + k) = ap (held_by x pieces) (omega arith) in
    omega (arith, first, rest, ones, same)
  where
    lowest : (w % 2 ≡ 1) ↔ (slice_get pieces n ≡ Some x)
    lowest = subst (λ (i : ℕ). (w % 2 ≡ 1) ↔ (slice_get pieces i ≡ Some x)) (omega arith) (subst (λ (r : ℕ). (r ≡ 1) ↔ (slice_get pieces (n + 0) ≡ Some x)) (bit_at_lowest w) (told 0 (omega arith)))

    later : (b : ℕ) → b < k → (bit_at (w / 2) b ≡ 1) ↔ (slice_get pieces (n + 1 + b) ≡ Some x)
    later b below = subst (λ (i : ℕ). (bit_at (w / 2) b ≡ 1) ↔ (slice_get pieces i ≡ Some x)) (omega arith) (subst (λ (r : ℕ). (r ≡ 1) ↔ (slice_get pieces (n + suc b) ≡ Some x)) (bit_at-suc w b) (told (suc b) (omega (arith, below))))

-- the vertices of one column more
pub column_more : (x : ℕ) (pieces : List ℕ) (column w many : ℕ) → w < 2 ^ 64 → IsWordOf pieces x column w → many ≡ held_by x pieces (column * 64) → many + count_ones w ≡ held_by x pieces ((column + 1) * 64)
column_more x pieces column w many small word is =
    let more = bits_more x pieces 64 (column * 64) w small word in
    let same : held_by x pieces ((column + 1) * 64) ≡ held_by x pieces (column * 64 + 64) = ap (held_by x pieces) (omega arith) in
    omega (arith, more, same, is)

-- the vertices of all columns are all vertices
pub all_columns : (x : ℕ) (pieces : List ℕ) (columns : ℕ) → length pieces ≤ columns * 64 → held_by x pieces (columns * 64) ≡ count_by (λ y. y == x) pieces
all_columns x pieces columns wide = ap (count_by (λ y. y == x)) (take_all (columns * 64) pieces wide)
