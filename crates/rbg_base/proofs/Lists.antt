-- Lists that come one after another in one list.
use Rattle.rbg_base.proofs.Common.{◌≡◌, ℕ, suc, ◌-◌, ◌<◌, ◌≤◌, List, [], ◌∷◌, ◌++◌, length, take, drop, get_or, Some, refl, sym, ap, ◌∙◌, subst, arith, length-append, length-drop, All, map, slice_get, slice_range, slice_get-get_or}
use Rattle.std.proofs.lemmas.List.{append_assoc, drop-append-le, take-append-le, drop_at, take_all, map_push, length-map, length-take-le}
use Rattle.rbg_base.proofs.CallerLemmas.{slice_get-map_at}
use Rattle.rbg_base.specs.Move.{IsMoveLength}
use Rattle.rbg_base.specs.List.{IsSpan, lists_at}
use Rattle.rbg_base.specs.declared.list.Span.{Span}

range-append : (xs more : List (ℕ × ℕ)) (i j : ℕ) → i ≤ j → j ≤ length xs → slice_range (xs ++ more) i j ≡ slice_range xs i j
range-append xs more i j ordered within =
    let start : i ≤ length xs = omega arith in
    let count : j - i ≤ length (drop i xs) = omega (arith, length-drop i xs) in
    ap (λ (ys : List (ℕ × ℕ)). take (j - i) ys) (drop-append-le i xs more start) ∙ take-append-le (j - i) (drop i xs) more count

-- the last part of a list
range_rest : (xs ys : List (ℕ × ℕ)) (i j : ℕ) → i ≡ length xs → j ≡ length (xs ++ ys) → slice_range (xs ++ ys) i j ≡ ys
range_rest xs ys i j start end =
    let all : length ys ≤ j - i = omega (arith, start, end, length-append xs ys) in
    ap (λ (zs : List (ℕ × ℕ)). take (j - i) zs) (drop_at xs ys i (sym start)) ∙ take_all (j - i) ys all

-- no list
pub lists_none : (xs : List (ℕ × ℕ)) (spans : List Span) → spans ≡ [] → lists_at xs spans ≡ []
unfolding lists_at
lists_none xs spans none = ap (λ (ss : List Span). map (λ (s : Span). slice_range xs s.start s.end) ss) none

-- as many lists as spans
pub lists_count : (xs : List (ℕ × ℕ)) (spans : List Span) → length (lists_at xs spans) ≡ length spans
unfolding lists_at
lists_count xs spans = length-map spans (λ (s : Span). slice_range xs s.start s.end)

-- the lists stay the same if more is appended
pub lists_grow : (xs more : List (ℕ × ℕ)) (spans : List Span) → All (IsSpan (length xs)) spans → lists_at (xs ++ more) spans ≡ lists_at xs spans
unfolding lists_at
lists_grow xs more [] all = refl
lists_grow xs more (span ∷ spans) all =
    let is : IsSpan (length xs) span = all 0 span (omega arith) in
    let ordered : span.start ≤ span.end = omega (arith, is.some) in
    let first : slice_range (xs ++ more) span.start span.end ≡ slice_range xs span.start span.end = range-append xs more span.start span.end ordered is.within in
    let rest : map (λ (s : Span). slice_range (xs ++ more) s.start s.end) spans ≡ map (λ (s : Span). slice_range xs s.start s.end) spans = lists_grow xs more spans (λ i d under. all (suc i) d (omega (arith, under))) in
    ap (λ (l : List (ℕ × ℕ)). l ∷ map (λ (s : Span). slice_range (xs ++ more) s.start s.end) spans) first ∙ ap (λ (ls : List (List (ℕ × ℕ))). slice_range xs span.start span.end ∷ ls) rest

-- the lists stay the same if the spans do and more is appended
pub lists_kept : (xs ys more : List (ℕ × ℕ)) (spans spans' : List Span) → All (IsSpan (length xs)) spans → ys ≡ xs ++ more → spans' ≡ spans → lists_at ys spans' ≡ lists_at xs spans
lists_kept xs ys more spans spans' all grown same =
    ap (λ (zs : List (ℕ × ℕ)). lists_at zs spans') grown
    ∙ ap (λ (ss : List Span). lists_at (xs ++ more) ss) same
    ∙ lists_grow xs more spans all

-- one more list at the end
lists_more : (xs ys : List (ℕ × ℕ)) (spans : List Span) (s : Span) → All (IsSpan (length xs)) spans → s.start ≡ length xs → s.end ≡ length (xs ++ ys) → lists_at (xs ++ ys) (spans ++ s ∷ []) ≡ lists_at xs spans ++ ys ∷ []
unfolding lists_at
lists_more xs ys spans s all start end =
    let old : map (λ (t : Span). slice_range (xs ++ ys) t.start t.end) spans ≡ map (λ (t : Span). slice_range xs t.start t.end) spans = lists_grow xs ys spans all in
    map_push (λ (t : Span). slice_range (xs ++ ys) t.start t.end) spans s
    ∙ ap (λ (ls : List (List (ℕ × ℕ))). ls ++ slice_range (xs ++ ys) s.start s.end ∷ []) old
    ∙ ap (λ (l : List (ℕ × ℕ)). map (λ (t : Span). slice_range xs t.start t.end) spans ++ l ∷ []) (range_rest xs ys s.start s.end start end)

pub lists_push : (xs middle ys front : List (ℕ × ℕ)) (last : ℕ × ℕ) (spans spans' : List Span) (s : Span) → All (IsSpan (length xs)) spans → middle ≡ xs ++ front → ys ≡ middle ++ last ∷ [] → spans' ≡ spans ++ s ∷ [] → s.start ≡ length xs → s.end ≡ length ys → lists_at ys spans' ≡ lists_at xs spans ++ (front ++ last ∷ []) ∷ []
lists_push xs middle ys front last spans spans' s all one two three start end =
    let is : ys ≡ xs ++ (front ++ last ∷ []) = two ∙ ap (λ (zs : List (ℕ × ℕ)). zs ++ last ∷ []) one ∙ append_assoc xs front (last ∷ []) in
    ap (λ (zs : List (ℕ × ℕ)). lists_at zs spans') is
    ∙ ap (λ (ss : List Span). lists_at (xs ++ (front ++ last ∷ [])) ss) three
    ∙ lists_more xs (front ++ last ∷ []) spans s all start (end ∙ ap (λ (zs : List (ℕ × ℕ)). length zs) is)

-- the span that is read
pub span_at : (n : ℕ) (spans : List Span) (i : ℕ) (s : Span) → All (IsSpan n) spans → i < length spans → s ≡ get_or spans i s → IsSpan n s
span_at n spans i s all under is = subst (IsSpan n) (sym is) (all i s under)

-- the list at the span that is read
pub list_at : (xs : List (ℕ × ℕ)) (spans : List Span) (i : ℕ) (s : Span) → i < length spans → s ≡ get_or spans i s → slice_get (lists_at xs spans) i ≡ Some (slice_range xs s.start s.end)
unfolding lists_at
list_at xs spans i s under is =
    let here : slice_get spans i ≡ Some s = slice_get-get_or spans i s under ∙ ap (λ (t : Span). Some t) (sym is) in
    slice_get-map_at (λ (t : Span). slice_range xs t.start t.end) spans i s here

pub length_at : (xs : List (ℕ × ℕ)) (s : Span) → IsSpan (length xs) s → IsMoveLength (length (slice_range xs s.start s.end))
length_at xs s is =
    let count : s.end - s.start ≤ length (drop s.start xs) = omega (arith, length-drop s.start xs, is.within) in
    let size : length (slice_range xs s.start s.end) ≡ s.end - s.start = length-take-le (s.end - s.start) (drop s.start xs) count in
    (omega (arith, size, is.some), omega (arith, size, is.few))
