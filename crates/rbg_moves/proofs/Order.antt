-- The order of moves.
use Rattle.std.proofs.Common.{◌≡◌, ◌≢◌, ℕ, ◌<◌, ◌≤◌, List, [], ◌∷◌, get_or, true, false, refl, sym, ap, ◌∙◌, subst, inl, inr, arith, AllPairs, Decides, IsPermutation, IsSorted, Ordering, Less, Equal, Greater}
use Rattle.std.specs.Cmp.{IsTotalOrder}
use Rattle.std.specs.Cmp.Lexicographic.{slice_cmp}
use Rattle.std.specs.Ordering.{nat_cmp, ordering_then, ordering_reverse, MatchOrdering, eq_by_cmp, is_eq, is_lt}
use Rattle.std.proofs.lemmas.Cmp.{ranked, on_total, then_total, nat_cmp_total, lists_total, eq_by_cmp_equiv, tied_itself}
use Rattle.std.proofs.lemmas.List.Sorted.{sorted_far, ranks_by}
use Rattle.std.proofs.lemmas.Map.Keys.{IsDistinct-IsPermutation}
use Rattle.std.proofs.lemmas.Map.Made.{AllPairs-from_IsDistinct, IsDistinct-from_AllPairs}
use Rattle.rbg_search.specs.Flat.{IsBefore}
use Rattle.rbg_moves.specs.Listing.{IsMoveBefore}

-- the order by which the program sorts
abbrev pub pair_cmp : ℕ × ℕ → ℕ × ℕ → Ordering
pair_cmp p q = ordering_then (nat_cmp p.0 q.0) (nat_cmp p.1 q.1)

abbrev pub move_cmp : List (ℕ × ℕ) → List (ℕ × ℕ) → Ordering
move_cmp ps qs = slice_cmp pair_cmp ps qs

move_total : IsTotalOrder move_cmp
move_total = lists_total (then_total (on_total (λ (p : ℕ × ℕ). p.0) nat_cmp_total) (on_total (λ (p : ℕ × ℕ). p.1) nat_cmp_total))

-- Where one order decides first and another after it.
joined :
    (o o' : Ordering) (Less' Same More LessThen SameThen MoreThen LessBoth SameBoth MoreBoth : Type 0) →
    MatchOrdering o Less' Same More → MatchOrdering o' LessThen SameThen MoreThen →
    (Less' → LessBoth) → (Same → LessThen → LessBoth) → (Same → SameThen → SameBoth) → (Same → MoreThen → MoreBoth) → (More → MoreBoth) →
    MatchOrdering (ordering_then o o') LessBoth SameBoth MoreBoth
joined Less o' _ _ _ _ _ _ _ _ _ first second less less_then same more_then more = less first
joined Greater o' _ _ _ _ _ _ _ _ _ first second less less_then same more_then more = more first
joined Equal Less _ _ _ _ _ _ _ _ _ first second less less_then same more_then more = less_then first second
joined Equal Equal _ _ _ _ _ _ _ _ _ first second less less_then same more_then more = same first second
joined Equal Greater _ _ _ _ _ _ _ _ _ first second less less_then same more_then more = more_then first second

pairs_ranked : (p q : ℕ × ℕ) → MatchOrdering (pair_cmp p q) (IsBefore p q) (p ≡ q) (IsBefore q p)
pairs_ranked p q =
    joined (nat_cmp p.0 q.0) (nat_cmp p.1 q.1)
    (p.0 < q.0) (p.0 ≡ q.0) (q.0 < p.0) (p.1 < q.1) (p.1 ≡ q.1) (q.1 < p.1) (IsBefore p q) (p ≡ q) (IsBefore q p)
    (ranked p.0 q.0 (nat_cmp p.0 q.0) refl) (ranked p.1 q.1 (nat_cmp p.1 q.1) refl)
    (λ less. inl less) (λ same less. inr (same, less)) (λ same same' i. (same i, same' i)) (λ same more. inr (sym same, more)) (λ more. inl more)

moves_ranked : (ps qs : List (ℕ × ℕ)) → MatchOrdering (move_cmp ps qs) (IsMoveBefore ps qs) (ps ≡ qs) (IsMoveBefore qs ps)
moves_ranked [] [] = refl
moves_ranked [] (q ∷ qs) = tt
moves_ranked (p ∷ ps) [] = tt
moves_ranked (p ∷ ps) (q ∷ qs) =
    joined (pair_cmp p q) (move_cmp ps qs)
    (IsBefore p q) (p ≡ q) (IsBefore q p) (IsMoveBefore ps qs) (ps ≡ qs) (IsMoveBefore qs ps)
    (IsMoveBefore (p ∷ ps) (q ∷ qs)) (p ∷ ps ≡ q ∷ qs) (IsMoveBefore (q ∷ qs) (p ∷ ps))
    (pairs_ranked p q) (moves_ranked ps qs)
    (λ less. inl less) (λ same less. inr (same, less)) (λ same same' i. same i ∷ same' i) (λ same more. inr (sym same, more)) (λ more. inl more)

true_not_false : true ≡ false → ⊥
true_not_false e = cc

-- Sorted moves that differ stand in order.
pub in_order : (moves : List (List (ℕ × ℕ))) → IsSorted move_cmp moves → AllPairs (λ a b. a ≢ b) moves → AllPairs IsMoveBefore moves
in_order moves sorted different i j d before under =
    let at_most : i ≤ j = omega (arith, before) in
    by_order (get_or moves i d) (get_or moves j d) (move_cmp (get_or moves i d) (get_or moves j d)) refl
    (moves_ranked (get_or moves i d) (get_or moves j d)) (different i j d before under)
    (sorted_far (λ x y. is_lt (move_cmp x y)) (ranks_by move_total (λ (x : List (ℕ × ℕ)). x)) moves sorted i j d at_most under)
  where
    by_order : (x y : List (ℕ × ℕ)) (o : Ordering) → move_cmp x y ≡ o → MatchOrdering o (IsMoveBefore x y) (x ≡ y) (IsMoveBefore y x) → x ≢ y → is_lt (move_cmp y x) ≡ false → IsMoveBefore x y
    by_order x y Less is less differ not_less = less
    by_order x y Equal is same differ not_less = absurd (differ same)
    by_order x y Greater is more differ not_less = absurd (true_not_false (sym (ap is_lt (move_total.antisymm y x ∙ ap ordering_reverse is)) ∙ not_less))

same_decided : (x y : List (ℕ × ℕ)) → Decides (eq_by_cmp move_cmp x y) (x ≡ y)
same_decided x y = (
  by_order (move_cmp x y) (moves_ranked x y),
  (λ same. subst (λ (z : List (ℕ × ℕ)). is_eq (move_cmp x z) ≡ true) same (ap is_eq (tied_itself move_total x))),
)
  where
    by_order : (o : Ordering) → MatchOrdering o (IsMoveBefore x y) (x ≡ y) (IsMoveBefore y x) → is_eq o ≡ true → x ≡ y
    by_order Less less e = absurd (true_not_false (sym e))
    by_order Equal same e = same
    by_order Greater more e = absurd (true_not_false (sym e))

-- Moves that differ do so in any order.
pub still_different : (xs ys : List (List (ℕ × ℕ))) → IsPermutation xs ys → AllPairs (λ a b. a ≢ b) xs → AllPairs (λ a b. a ≢ b) ys
still_different xs ys moved different =
    AllPairs-from_IsDistinct same_decided ys
    (IsDistinct-IsPermutation (eq_by_cmp move_cmp) (eq_by_cmp_equiv move_total).symm xs ys moved
    (IsDistinct-from_AllPairs same_decided xs different))
