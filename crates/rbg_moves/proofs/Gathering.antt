-- Lists of moves that are gathered part by part.
use Rattle.rbg_base.proofs.Common.{◌≡◌, ◌≢◌, ℕ, ◌+◌, ◌<◌, ◌≤◌, ◌⊎◌, List, [], ◌∷◌, ◌++◌, length, get_or, map, Bool, true, false, refl, sym, ap, ◌∙◌, subst, inl, inr, arith, append_assoc, length-append, All, AllPairs, Contains, ◌↔◌, All-nil, All-cons, All-append, All-map, All-weaker, All-contains, Contains-append_left, Contains-append_right, Contains-append_cases}
use Rattle.std.proofs.lemmas.List.{append-nil, map-append, length-map, get_or-map}
use Rattle.std.proofs.lemmas.List.Kept.{AllPairs-cons}
use Rattle.rbg_base.specs.Move.{IsMoveLength}
use Rattle.rbg_search.proofs.Counts.{all_pairs_append, all_pairs_head, all_pairs_tail}
use Rattle.rbg_moves.specs.internal.Gathering.{Gathers, IsBeyond}

true_not_false : true ≡ false → ⊥
true_not_false e = cc

all_pairs_nil : {X : Type 0} (R : X → X → Type 0) → AllPairs R []
all_pairs_nil R i j d before under = absurd (omega (arith, under))

-- A function that keeps what differs apart keeps a list of different elements.
pub different_map : {X Y : Type 0} (f : X → Y) → ((a b : X) → f a ≡ f b → a ≡ b) → (xs : List X) → AllPairs (λ a b. a ≢ b) xs → AllPairs (λ a b. a ≢ b) (map f xs)
different_map f apart [] different = all_pairs_nil (λ a b. a ≢ b)
different_map f apart (x ∷ xs) different =
    AllPairs-cons (λ a b. a ≢ b) (f x) (map f xs)
    (All-map (λ y. f x ≢ y) f xs (All-weaker (λ y. x ≢ y) (λ y. f x ≢ f y) (λ y h same. h (apart x y same)) xs (all_pairs_head (λ a b. a ≢ b) x xs different)))
    (different_map f apart xs (all_pairs_tail (λ a b. a ≢ b) x xs different))

contains_map : {X Y : Type 0} (f : X → Y) (xs : List X) (x : X) → Contains xs x → Contains (map f xs) (f x)
contains_map f xs x (k, under, is) =
    let size = length-map xs f in
    (k, omega (arith, under, size), get_or-map f xs k x (f x) under ∙ ap f is)

contains_map_back : {X Y : Type 0} (f : X → Y) → ((a b : X) → f a ≡ f b → a ≡ b) → (xs : List X) (x : X) → Contains (map f xs) (f x) → Contains xs x
contains_map_back f apart xs x (k, under, is) =
    let size = length-map xs f in
    let under' : k < length xs = omega (arith, under, size) in
    (k, under', apart (get_or xs k x) x (sym (get_or-map f xs k x (f x) under') ∙ is))

-- Nothing is wanted.
pub gathers_none : (P : List (ℕ × ℕ) → Type 0) (front : List (ℕ × ℕ)) (max : ℕ) (old : List (List (ℕ × ℕ))) (first : List (ℕ × ℕ)) → length old ≤ max → ((ps : List (ℕ × ℕ)) → ¬ P ps) → Gathers P front max old old first false
gathers_none P front max old first few none = record {
  found = [];
  grown = sym (append-nil old);
  wanted = All-nil P;
  different = all_pairs_nil (λ a b. a ≢ b);
  few = few;
  whole = λ _ ps wanted. absurd (none ps wanted);
  full = λ e. absurd (true_not_false (sym e));
  more = λ e. absurd (true_not_false (sym e));
}

-- The same lists are wanted in other words. Where it is cut, what is wanted before may be a part of what is wanted now;
-- where there was room for all, it doesn't matter which the first one is.
gathers_told : (P Q : List (ℕ × ℕ) → Type 0) (front : List (ℕ × ℕ)) (max : ℕ) (old new : List (List (ℕ × ℕ))) (first other : List (ℕ × ℕ)) (cut : Bool) → (cut ≡ true → other ≡ first) → ((ps : List (ℕ × ℕ)) → P ps → Q ps) → (cut ≡ false → (ps : List (ℕ × ℕ)) → Q ps → P ps) → Gathers P front max old new first cut → Gathers Q front max old new other cut
gathers_told P Q front max old new first other cut same to from is = record {
  found = is.found;
  grown = is.grown;
  wanted = All-weaker P Q to is.found is.wanted;
  different = is.different;
  few = is.few;
  whole = λ e ps h. is.whole e ps (from e ps h);
  full = is.full;
  more = λ e. let one = is.more e in record {
    pairs = one.pairs;
    wanted = to one.pairs one.wanted;
    missing = one.missing;
    told = λ none. same e ∙ one.told none;
    sized = λ none. subst (λ (qs : List (ℕ × ℕ)). IsMoveLength (length qs)) (sym (same e)) (one.sized none);
  };
}

pub gathers_any : (P : List (ℕ × ℕ) → Type 0) (front : List (ℕ × ℕ)) (max : ℕ) (old new : List (List (ℕ × ℕ))) (first other : List (ℕ × ℕ)) → Gathers P front max old new first false → Gathers P front max old new other false
gathers_any P front max old new first other = gathers_told P P front max old new first other false (λ e. absurd (true_not_false (sym e))) (λ _ h. h) (λ _ _ h. h)

pub gathers_as : (P Q : List (ℕ × ℕ) → Type 0) (front : List (ℕ × ℕ)) (max : ℕ) (old new : List (List (ℕ × ℕ))) (first : List (ℕ × ℕ)) (cut : Bool) → ((ps : List (ℕ × ℕ)) → P ps ↔ Q ps) → Gathers P front max old new first cut → Gathers Q front max old new first cut
gathers_as P Q front max old new first cut same = gathers_told P Q front max old new first first cut (λ _. refl) (λ ps. (same ps).0) (λ _ ps. (same ps).1)

pub gathers_more : (P Q : List (ℕ × ℕ) → Type 0) (front : List (ℕ × ℕ)) (max : ℕ) (old new : List (List (ℕ × ℕ))) (first : List (ℕ × ℕ)) → ((ps : List (ℕ × ℕ)) → P ps → Q ps) → Gathers P front max old new first true → Gathers Q front max old new first true
gathers_more P Q front max old new first more = gathers_told P Q front max old new first first true (λ _. refl) more (λ e. absurd (true_not_false e))

-- One list is wanted, and there is room for it.
pub gathers_one : (P : List (ℕ × ℕ) → Type 0) (front : List (ℕ × ℕ)) (max : ℕ) (old : List (List (ℕ × ℕ))) (first one : List (ℕ × ℕ)) → length old < max → P one → ((ps : List (ℕ × ℕ)) → P ps → ps ≡ one) → Gathers P front max old (old ++ (front ++ one) ∷ []) first false
gathers_one P front max old first one room wanted only = record {
  found = one ∷ [];
  grown = refl;
  wanted = All-cons P one [] wanted (All-nil P);
  different = AllPairs-cons (λ a b. a ≢ b) one [] (All-nil (λ y. one ≢ y)) (all_pairs_nil (λ a b. a ≢ b));
  few = let size = length-append old ((front ++ one) ∷ []) in omega (arith, size, room);
  whole = λ _ ps h. let below : 0 < 1 = omega arith in (0, below, sym (only ps h));
  full = λ e. absurd (true_not_false (sym e));
  more = λ e. absurd (true_not_false (sym e));
}

-- One is wanted, and there is no room.
pub gathers_full : (P : List (ℕ × ℕ) → Type 0) (front : List (ℕ × ℕ)) (max : ℕ) (old : List (List (ℕ × ℕ))) (first one : List (ℕ × ℕ)) → length old ≡ max → P one → (max ≡ 0 → first ≡ front ++ one) → (max ≡ 0 → IsMoveLength (length first)) → Gathers P front max old old first true
gathers_full P front max old first one size wanted told sized = record {
  found = [];
  grown = sym (append-nil old);
  wanted = All-nil P;
  different = all_pairs_nil (λ a b. a ≢ b);
  few = omega (arith, size);
  whole = λ e. absurd (true_not_false e);
  full = λ _. size;
  more = λ _. record { pairs = one; wanted = wanted; missing = λ (k, under, _). absurd (omega (arith, under)); told = told; sized = sized };
}

-- Two parts that have none in common.
pub gathers_both : (P Q : List (ℕ × ℕ) → Type 0) (front : List (ℕ × ℕ)) (max : ℕ) (old middle new : List (List (ℕ × ℕ))) (none first : List (ℕ × ℕ)) (cut : Bool) → Gathers P front max old middle none false → Gathers Q front max middle new first cut → ((ps : List (ℕ × ℕ)) → P ps → Q ps → ⊥) → Gathers (λ ps. P ps ⊎ Q ps) front max old new first cut
gathers_both P Q front max old middle new none first cut one second apart = record {
  found = one.found ++ second.found;
  grown =
      second.grown
      ∙ ap (λ (xs : List (List (ℕ × ℕ))). xs ++ map (λ ps. front ++ ps) second.found) one.grown
      ∙ append_assoc old (map (λ ps. front ++ ps) one.found) (map (λ ps. front ++ ps) second.found)
      ∙ ap (λ (xs : List (List (ℕ × ℕ))). old ++ xs) (sym (map-append (λ ps. front ++ ps) one.found second.found));
  wanted =
      All-append (λ ps. P ps ⊎ Q ps) one.found second.found
      (All-weaker P (λ ps. P ps ⊎ Q ps) (λ ps h. inl h) one.found one.wanted)
      (All-weaker Q (λ ps. P ps ⊎ Q ps) (λ ps h. inr h) second.found second.wanted);
  different =
      all_pairs_append (λ a b. a ≢ b) one.found second.found one.different second.different
      (All-weaker P (λ x. All (λ y. x ≢ y) second.found)
      (λ x p. All-weaker Q (λ y. x ≢ y) (λ y q same. apart y (subst P same p) q) second.found second.wanted)
      one.found one.wanted);
  few = second.few;
  whole = λ e ps h. elim h [
    | inl p ↦ Contains-append_left one.found second.found ps (one.whole refl ps p)
    | inr q ↦ Contains-append_right one.found second.found ps (second.whole e ps q)
  ];
  full = second.full;
  more = λ e. let other = second.more e in record {
    pairs = other.pairs;
    wanted = inr other.wanted;
    missing = λ there. elim (Contains-append_cases one.found second.found other.pairs there) [
      | inl before ↦ apart other.pairs (All-contains P one.found other.pairs one.wanted before) other.wanted
      | inr after ↦ other.missing after
    ];
    told = other.told;
    sized = other.sized;
  };
}

put_after : (front : List (ℕ × ℕ)) (q : ℕ × ℕ) (found : List (List (ℕ × ℕ))) → map (λ ps. (front ++ q ∷ []) ++ ps) found ≡ map (λ ps. front ++ ps) (map (λ ps. q ∷ ps) found)
put_after front q [] = refl
put_after front q (ps ∷ found) = λ i. append_assoc front (q ∷ []) ps i ∷ put_after front q found i

same_rest : (q : ℕ × ℕ) (ps qs : List (ℕ × ℕ)) → q ∷ ps ≡ q ∷ qs → ps ≡ qs
same_rest q ps qs same = cc

-- What is gathered after a pair.
pub gathers_after : (Q : List (ℕ × ℕ) → Type 0) (front : List (ℕ × ℕ)) (q : ℕ × ℕ) (max : ℕ) (old new : List (List (ℕ × ℕ))) (first : List (ℕ × ℕ)) (cut : Bool) → Gathers Q (front ++ q ∷ []) max old new first cut → Gathers (IsBeyond q Q) front max old new first cut
gathers_after Q front q max old new first cut beyond = record {
  found = map (λ ps. q ∷ ps) beyond.found;
  grown = beyond.grown ∙ ap (λ (xs : List (List (ℕ × ℕ))). old ++ xs) (put_after front q beyond.found);
  wanted =
      All-map (IsBeyond q Q) (λ ps. q ∷ ps) beyond.found
      (All-weaker Q (λ ps. IsBeyond q Q (q ∷ ps)) (λ ps h. record { rest = ps; is = refl; wanted = h }) beyond.found beyond.wanted);
  different = different_map (λ ps. q ∷ ps) (same_rest q) beyond.found beyond.different;
  few = beyond.few;
  whole = λ e ps h. subst (Contains (map (λ ps. q ∷ ps) beyond.found)) (sym h.is) (contains_map (λ ps. q ∷ ps) beyond.found h.rest (beyond.whole e h.rest h.wanted));
  full = beyond.full;
  more = λ e. let other = beyond.more e in record {
    pairs = q ∷ other.pairs;
    wanted = record { rest = other.pairs; is = refl; wanted = other.wanted };
    missing = λ there. other.missing (contains_map_back (λ ps. q ∷ ps) (same_rest q) beyond.found other.pairs there);
    told = λ none. other.told none ∙ append_assoc front (q ∷ []) other.pairs;
    sized = other.sized;
  };
}

-- Where there is room for none and nothing is cut, nothing is wanted.
pub none_wanted : (P : List (ℕ × ℕ) → Type 0) (front : List (ℕ × ℕ)) (old new : List (List (ℕ × ℕ))) (first : List (ℕ × ℕ)) → Gathers P front 0 old new first false → (ps : List (ℕ × ℕ)) → ¬ P ps
none_wanted P front old new first part ps wanted =
    let (k, under, _) = part.whole refl ps wanted in
    let few = part.few in
    let size : length new ≡ length old + length (map (λ ps. front ++ ps) part.found) = ap (λ (xs : List (List (ℕ × ℕ))). length xs) part.grown ∙ length-append old (map (λ ps. front ++ ps) part.found) in
    let same : length (map (λ ps. front ++ ps) part.found) ≡ length part.found = length-map part.found (λ ps. front ++ ps) in
    omega (arith, under, few, size, same)
