-- Pairs that differ stand, once they are sorted, each before the next.
use Rattle.rbg_base.proofs.Common.{Ordering, ◌≡◌, ◌≢◌, ℕ, ◌<◌, ◌⊎◌, List, length, get_or, Bool, true, false, refl, sym, ap, ◌∙◌, inl, inr, arith, All, AllPairs, Contains, swap, IsPermutation, IsSorted, cases_order, cases_eq, All-weaker, All-contains, All-contains_itself, nat_tests}
use Rattle.std.specs.Ordering.{nat_cmp, ordering_then, is_lt}
use Rattle.std.specs.Cmp.{IsTotalOrder}
use Rattle.std.proofs.lemmas.Cmp.{nat_cmp_total, on_total, then_total}
use Rattle.std.proofs.lemmas.List.Edits.{Swapped, swapped_from_swap, length-swap}
use Rattle.std.proofs.lemmas.List.Sorted.{IsPermutation-keeps, IsPermutation-sym, Contains-permutation, sorted_far, ranks_by}
use Rattle.rbg_rules.specs.Meaning.{Start, AbstractGame, AbstractState, IsStateOf}
use Rattle.rbg_search.proofs.Along.{IsBefore, IsFlatPart, IsPositionOf}
use Rattle.rbg_search.specs.internal.Beyond.{IsReady}

abbrev pub pair_cmp : ℕ × ℕ → ℕ × ℕ → Ordering
pair_cmp x y = ordering_then (nat_cmp x.0 y.0) (nat_cmp x.1 y.1)

pair_total : IsTotalOrder pair_cmp
pair_total = then_total (on_total (λ (q : ℕ × ℕ). q.0) nat_cmp_total) (on_total (λ (q : ℕ × ℕ). q.1) nat_cmp_total)

lesser_first : (a b c d : ℕ) → a < b → is_lt (ordering_then (nat_cmp a b) (nat_cmp c d)) ≡ true
lesser_first a b c d less = grind (arith, nat_tests)

lesser_second : (a b c d : ℕ) → a ≡ b → c < d → is_lt (ordering_then (nat_cmp a b) (nat_cmp c d)) ≡ true
lesser_second a b c d same less = grind (arith, nat_tests)

true_not_false : true ≡ false → ⊥
true_not_false e = cc

-- What isn't greater, and differs, stands before.
before : (a b : ℕ × ℕ) → is_lt (pair_cmp b a) ≡ false → a ≢ b → IsBefore a b
before a b not_after differ = elim (cases_order a.0 b.0) [
  | inl same ↦ inr (same, second same (cases_order a.1 b.1))
  | inr other ↦ elim other [
    | inl less ↦ inl less
    | inr more ↦ absurd (true_not_false (sym (lesser_first b.0 a.0 b.1 a.1 more) ∙ not_after))
  ]
]
  where
    second : a.0 ≡ b.0 → (a.1 ≡ b.1) ⊎ ((a.1 < b.1) ⊎ (b.1 < a.1)) → a.1 < b.1
    second first (inl same) = absurd (differ (λ i. (first i, same i)))
    second first (inr (inl less)) = less
    second first (inr (inr more)) = absurd (true_not_false (sym (lesser_second b.0 a.0 b.1 a.1 (sym first) more) ∙ not_after))

-- At two places of the list there are two elements.
abbrev OneEach : List (ℕ × ℕ) → Type 0
OneEach xs = (i j : ℕ) (d : ℕ × ℕ) → i < length xs → j < length xs → get_or xs i d ≡ get_or xs j d → i ≡ j

one_each : (xs : List (ℕ × ℕ)) → AllPairs (λ a b. a ≢ b) xs → OneEach xs
one_each xs different i j d first second same = elim (cases_order i j) [
  | inl e ↦ e
  | inr other ↦ elim other [
    | inl less ↦ absurd (different i j d less second same)
    | inr more ↦ absurd (different j i d more first (sym same))
  ]
]

from_one_each : (xs : List (ℕ × ℕ)) → OneEach xs → AllPairs (λ a b. a ≢ b) xs
from_one_each xs one i j d less under same = absurd (apart i j less (one i j d (omega (arith, less, under)) under same))
  where
    apart : (i j : ℕ) → i < j → i ≡ j → ⊥
    apart i j less e = omega (arith, less, e)

-- Where the element at place k after a swap of a and b came from.
abbrev Came : (a b k m : ℕ) → Type 0
Came a b k m = ((k ≡ a) × (m ≡ b)) ⊎ ((k ≢ a) × (k ≡ b) × (m ≡ a)) ⊎ ((k ≢ a) × (k ≢ b) × (m ≡ k))

came_from : (a b k : ℕ) → (m : ℕ) × Came a b k m
came_from a b k = elim (cases_eq k a) [
  | inl e ↦ (b, inl (e, refl))
  | inr differs ↦ elim (cases_eq k b) [
    | inl e ↦ (a, inr (inl (differs, e, refl)))
    | inr neither ↦ (k, inr (inr (differs, neither, refl)))
  ]
]

swap_keeps : (l : List (ℕ × ℕ)) (a b : ℕ) → a < length l → b < length l → OneEach l → OneEach (swap l a b)
swap_keeps l a b a_in b_in one i j d first second same = ends (came_from a b i) (came_from a b j)
  where
    moved : Swapped (λ k. get_or l k d) (λ k. get_or (swap l a b) k d) a b
    moved = swapped_from_swap l (swap l a b) a b d a_in b_in refl

    size : length (swap l a b) ≡ length l
    size = length-swap l a b

    read : (k m : ℕ) → Came a b k m → get_or (swap l a b) k d ≡ get_or l m d
    read k m (inl (e, f)) = ap (λ (x : ℕ). get_or (swap l a b) x d) e ∙ moved.0 ∙ ap (λ (x : ℕ). get_or l x d) (sym f)
    read k m (inr (inl (_, e, f))) = ap (λ (x : ℕ). get_or (swap l a b) x d) e ∙ moved.1 ∙ ap (λ (x : ℕ). get_or l x d) (sym f)
    read k m (inr (inr (differs, neither, f))) = moved.2 k differs neither ∙ ap (λ (x : ℕ). get_or l x d) (sym f)

    within : (k m : ℕ) → k < length (swap l a b) → Came a b k m → m < length l
    within k m under (inl (e, f)) = omega (arith, f, b_in)
    within k m under (inr (inl (_, e, f))) = omega (arith, f, a_in)
    within k m under (inr (inr (_, _, f))) = omega (arith, f, under, size)

    back : (k m k' m' : ℕ) → Came a b k m → Came a b k' m' → m ≡ m' → k ≡ k'
    back k m k' m' (inl (e, f)) (inl (e', f')) s = e ∙ sym e'
    back k m k' m' (inl (e, f)) (inr (inl (differs, e', f'))) s = e ∙ sym f' ∙ sym s ∙ f ∙ sym e'
    back k m k' m' (inl (e, f)) (inr (inr (differs, neither, f'))) s = absurd (neither (sym f' ∙ sym s ∙ f))
    back k m k' m' (inr (inl (differs, e, f))) (inl (e', f')) s = e ∙ sym f' ∙ sym s ∙ f ∙ sym e'
    back k m k' m' (inr (inl (differs, e, f))) (inr (inl (_, e', f'))) s = e ∙ sym e'
    back k m k' m' (inr (inl (differs, e, f))) (inr (inr (differs', neither, f'))) s = absurd (differs' (sym f' ∙ sym s ∙ f))
    back k m k' m' (inr (inr (differs, neither, f))) (inl (e', f')) s = absurd (neither (sym f ∙ s ∙ f'))
    back k m k' m' (inr (inr (differs, neither, f))) (inr (inl (_, e', f'))) s = absurd (differs (sym f ∙ s ∙ f'))
    back k m k' m' (inr (inr (differs, neither, f))) (inr (inr (_, _, f'))) s = sym f ∙ s ∙ f'

    ends : ((m : ℕ) × Came a b i m) → ((m : ℕ) × Came a b j m) → i ≡ j
    ends (m, from_m) (m', from_m') =
        back i m j m' from_m from_m' (one m m' d (within i m first from_m) (within j m' second from_m') (sym (read i m from_m) ∙ same ∙ read j m' from_m'))

pub still_differ : (xs ys : List (ℕ × ℕ)) → IsPermutation xs ys → AllPairs (λ a b. a ≢ b) xs → AllPairs (λ a b. a ≢ b) ys
still_differ xs ys moves different = from_one_each ys (IsPermutation-keeps xs OneEach (one_each xs different) swap_keeps ys moves)

-- What was found may be put in another order.
pub flat_permuted : (game : AbstractGame) (s : AbstractState) (f : Start) (xs ys : List (ℕ × ℕ)) (ends : Bool) → IsPermutation xs ys → IsFlatPart game s f xs ends → IsFlatPart game s f ys ends
flat_permuted game s f xs ys ends moves part = record {
  next = λ v p. (
    (λ h. (part.next v p).0 (Contains-permutation ys xs (v, p) (IsPermutation-sym xs ys moves) h)),
    (λ next. Contains-permutation xs ys (v, p) moves ((part.next v p).1 next)),
  );
  different = still_differ xs ys moves part.different;
  may_end = part.may_end;
}

-- A list of pairs that differ, sorted.
pub sorted_differ : (xs ys : List (ℕ × ℕ)) → IsPermutation xs ys → IsSorted pair_cmp ys → AllPairs (λ a b. a ≢ b) xs → AllPairs IsBefore ys
sorted_differ xs ys moves sorted different = λ i j d less under.
    before (get_or ys i d) (get_or ys j d)
    (sorted_far (λ x y. is_lt (pair_cmp x y)) (ranks_by pair_total (λ x. x)) ys sorted i j d (omega (arith, less)) under)
    (still_differ xs ys moves different i j d less under)

-- What is on the board and in the rules may be put in another order.
abbrev IsWithin : AbstractGame → ℕ × ℕ → Type 0
IsWithin game q = (q.0 < length game.board.first) × IsPositionOf game.rules q.1

pub within_permuted : (game : AbstractGame) (xs ys : List (ℕ × ℕ)) → IsPermutation xs ys → All (λ q. (q.0 < length game.board.first) × IsPositionOf game.rules q.1) xs → All (λ q. (q.0 < length game.board.first) × IsPositionOf game.rules q.1) ys
within_permuted game xs ys moves within =
    All-weaker (Contains ys) (IsWithin game)
    (λ q h. All-contains (IsWithin game) xs q within (Contains-permutation ys xs q (IsPermutation-sym xs ys moves) h)) ys (All-contains_itself ys)

-- What is ready to be applied is on the board and in the rules.
pub positions_within : (game : AbstractGame) (s : AbstractState) → IsStateOf game s → (limit : ℕ) (xs : List (ℕ × ℕ)) → All (IsReady game s limit) xs → All (λ q. (q.0 < length game.board.first) × IsPositionOf game.rules q.1) xs
positions_within game s fits limit xs ready = All-weaker (IsReady game s limit) (IsWithin game) one xs ready
  where
    one : (q : ℕ × ℕ) → IsReady game s limit q → IsWithin game q
    one q is = (omega (arith, is.vertex, fits.vertices), is.position)
