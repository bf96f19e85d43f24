-- Lists that hold all of which something is so, each once.
use Rattle.rbg_base.proofs.Common.{◌≡◌, ◌≢◌, ℕ, zero, suc, ◌<◌, ◌≤◌, ◌⊎◌, inl, inr, List, [], ◌∷◌, ◌++◌, length, get_or, map, sym, ap, subst, ◌∙◌, arith, Contains, All, AllPairs, All-head, All-tail, All-append, Contains-append_cases, Contains-append_left, Contains-append_right, Contains-get_or}
use Rattle.std.proofs.lemmas.List.{length-append, length-map, get_or-map}
use Rattle.std.proofs.lemmas.List.Kept.{AllPairs-cons}
use Rattle.rbg_base.proofs.CallerLemmas.{Contains-map}
use Rattle.rbg_flat.specs.internal.Gathering.{Lists}

no_index : (k : ℕ) → k < 0 → ⊥
no_index k h = omega (arith, h)

module _ {X : Type 0} where
  cons_cases : (y : X) (ys : List X) (x : X) → Contains (y ∷ ys) x → (y ≡ x) ⊎ Contains ys x
  cons_cases y ys x (zero, under, is) = inl is
  cons_cases y ys x (suc k, under, is) = inr (k, omega (arith, under), is)

  record Split (xs : List X) (x : X) : Type 0 where
    before : List X
    after_it : List X
    joined : xs ≡ before ++ x ∷ after_it

  split_at : (xs : List X) (x : X) → Contains xs x → Split xs x
  split_at [] x (k, under, is) = absurd (omega (arith, under))
  split_at (y ∷ ys) x (zero, under, is) = record { before = []; after_it = ys; joined = ap (λ (z : X). z ∷ ys) is }
  split_at (y ∷ ys) x (suc k, under, is) =
      let cut = split_at ys x (k, omega (arith, under), is) in
      record { before = y ∷ cut.before; after_it = cut.after_it; joined = ap (λ (zs : List X). y ∷ zs) cut.joined }

  still_there : (us vs : List X) (x y : X) → x ≢ y → Contains (us ++ x ∷ vs) y → Contains (us ++ vs) y
  still_there us vs x y other there = elim (Contains-append_cases us (x ∷ vs) y there) [
    | inl first ↦ Contains-append_left us vs y first
    | inr second ↦ elim (cons_cases x vs y second) [
      | inl same ↦ absurd (other same)
      | inr later ↦ Contains-append_right us vs y later
    ]
  ]

  pub no_longer : (xs ys : List X) → AllPairs (λ a b. a ≢ b) xs → All (Contains ys) xs → length xs ≤ length ys
  no_longer [] ys different there = omega arith
  no_longer (x ∷ xs) ys different there =
      let cut = split_at ys x (All-head (Contains ys) x xs there) in
      let others : All (λ y. x ≢ y) xs = λ k d under. different 0 (suc k) d (omega arith) (omega (arith, under)) in
      let rest_different : AllPairs (λ a b. a ≢ b) xs = λ i j d less under. different (suc i) (suc j) d (omega (arith, less)) (omega (arith, under)) in
      let rest_there : All (Contains (cut.before ++ cut.after_it)) xs = λ k d under.
      still_there cut.before cut.after_it x (get_or xs k d) (others k d under)
      (subst (λ (zs : List X). Contains zs (get_or xs k d)) cut.joined (All-tail (Contains ys) x xs there k d under)) in
      let fewer = no_longer xs (cut.before ++ cut.after_it) rest_different rest_there in
      let whole : length ys ≡ length (cut.before ++ x ∷ cut.after_it) = ap (λ (zs : List X). length zs) cut.joined in
      let first = length-append cut.before (x ∷ cut.after_it) in
      let second = length-append cut.before cut.after_it in
      omega (arith, fewer, whole, first, second)

  all_pairs_tail : (x : X) (xs : List X) → AllPairs (λ a b. a ≢ b) (x ∷ xs) → AllPairs (λ a b. a ≢ b) xs
  all_pairs_tail x xs all = λ i j d less within. all (suc i) (suc j) d (omega (arith, less)) (omega (arith, within))

  all_pairs_head : (x : X) (xs : List X) → AllPairs (λ a b. a ≢ b) (x ∷ xs) → All (λ y. x ≢ y) xs
  all_pairs_head x xs all = λ k d within. all 0 (suc k) d (omega arith) (omega (arith, within))

  all_pairs_append : (xs ys : List X) → AllPairs (λ a b. a ≢ b) xs → AllPairs (λ a b. a ≢ b) ys → All (λ x. All (λ y. x ≢ y) ys) xs → AllPairs (λ a b. a ≢ b) (xs ++ ys)
  all_pairs_append [] ys first second cross = second
  all_pairs_append (x ∷ xs) ys first second cross =
      AllPairs-cons (λ a b. a ≢ b) x (xs ++ ys)
      (All-append (λ y. x ≢ y) xs ys (all_pairs_head x xs first) (cross 0 x (omega arith)))
      (all_pairs_append xs ys (all_pairs_tail x xs first) second (All-tail (λ z. All (λ y. z ≢ y) ys) x xs cross))

  pub lists_none : (Is : X → Type 0) → ((x : X) → ¬ Is x) → Lists Is []
  lists_none Is none = record {
    all = λ x. (λ there. absurd (no_index there.0 there.1), λ is. absurd (none x is));
    different = λ i j d less within. absurd (no_index j within);
  }

  pub lists_same : (P Q : X → Type 0) (xs : List X) → Lists P xs → ((x : X) → P x → Q x) → ((x : X) → Q x → P x) → Lists Q xs
  lists_same P Q xs lists to of = record {
    all = λ x. (λ there. to x ((lists.all x).0 there), λ is. (lists.all x).1 (of x is));
    different = lists.different;
  }

  pub lists_join : (P Q R : X → Type 0) (xs ys : List X) → Lists P xs → Lists Q ys → ((x : X) → P x → Q x → ⊥) → ((x : X) → R x → P x ⊎ Q x) → ((x : X) → P x → R x) → ((x : X) → Q x → R x) → Lists R (xs ++ ys)
  lists_join P Q R xs ys one other apart cases first second = record {
    all = λ x. (λ there. of_case x (Contains-append_cases xs ys x there), λ is. to_case x (cases x is));
    different = all_pairs_append xs ys one.different other.different (λ k d under j e within same. differ k d under j e within same);
  }
    where
      of_case : (x : X) → Contains xs x ⊎ Contains ys x → R x
      of_case x (inl there) = first x ((one.all x).0 there)
      of_case x (inr there) = second x ((other.all x).0 there)

      to_case : (x : X) → P x ⊎ Q x → Contains (xs ++ ys) x
      to_case x (inl is) = Contains-append_left xs ys x ((one.all x).1 is)
      to_case x (inr is) = Contains-append_right xs ys x ((other.all x).1 is)

      differ : (k : ℕ) (d : X) → k < length xs → (j : ℕ) (e : X) → j < length ys → get_or xs k d ≡ get_or ys j e → ⊥
      differ k d under j e within same =
          apart (get_or xs k d) ((one.all (get_or xs k d)).0 (Contains-get_or xs k d under))
          (subst Q (sym same) ((other.all (get_or ys j e)).0 (Contains-get_or ys j e within)))

  lists_one : (y : X) → Lists (λ x. x ≡ y) (y ∷ [])
  lists_one y = record {
    all = λ x. (λ there. alone x (cons_cases y [] x there), λ same. (0, omega arith, sym same));
    different = λ i j d less within. absurd (no_two i j less within);
  }
    where
      alone : (x : X) → (y ≡ x) ⊎ Contains [] x → x ≡ y
      alone x (inl same) = sym same
      alone x (inr none) = absurd (no_index none.0 none.1)

      no_two : (i j : ℕ) → i < j → j < length (y ∷ []) → ⊥
      no_two i j less within = omega (arith, less, within)

  pub lists_push : (P R : X → Type 0) (xs : List X) (y : X) → Lists P xs → (¬ P y) → ((x : X) → R x → P x ⊎ (x ≡ y)) → ((x : X) → P x → R x) → R y → Lists R (xs ++ y ∷ [])
  lists_push P R xs y lists other cases first here =
      lists_join P (λ x. x ≡ y) R xs (y ∷ []) lists (lists_one y) (λ x is same. other (subst P same is)) cases first (λ x same. subst R (sym same) here)

  pub lists_count : (P : X → Type 0) (xs ys : List X) → Lists P xs → Lists P ys → length xs ≡ length ys
  lists_count P xs ys one other =
      let first = no_longer xs ys one.different (λ k d under. (other.all (get_or xs k d)).1 ((one.all (get_or xs k d)).0 (Contains-get_or xs k d under))) in
      let second = no_longer ys xs other.different (λ k d under. (one.all (get_or ys k d)).1 ((other.all (get_or ys k d)).0 (Contains-get_or ys k d under))) in
      omega (arith, first, second)

pub lists_map : {Y : Type 0} (f : ℕ → Y) → ((a b : ℕ) → f a ≡ f b → a ≡ b) → (P : ℕ → Type 0) (Q : Y → Type 0) (xs : List ℕ) → Lists P xs → ((y : Y) → Q y → (x : ℕ) × P x × (f x ≡ y)) → ((x : ℕ) → P x → Q (f x)) → Lists Q (map f xs)
lists_map {Y} f one_each P Q xs lists of to = record {
  all = λ y. (λ there. from there, λ is. into y (of y is));
  different = differ;
}
  where
    under_map : (i : ℕ) → i < length (map f xs) → i < length xs
    under_map i below = subst (λ (k : ℕ). i < k) (length-map xs f) below

    from : {y : Y} → Contains (map f xs) y → Q y
    from {y} (i, below, is) =
        let at = under_map i below in
        let x : ℕ = get_or xs i 0 in
        subst Q (sym (get_or-map f xs i 0 y at) ∙ is) (to x ((lists.all x).0 (Contains-get_or xs i 0 at)))

    into : (y : Y) → ((x : ℕ) × P x × (f x ≡ y)) → Contains (map f xs) y
    into y (x, is, same) = subst (λ (z : Y). Contains (map f xs) z) same (Contains-map f xs x ((lists.all x).1 is))

    differ : AllPairs (λ a b. a ≢ b) (map f xs)
    differ = λ i j d less within same.
        let at_j = under_map j within in
        let at_i : i < length xs = omega (arith, less, at_j) in
        lists.different i j 0 less at_j (one_each (get_or xs i 0) (get_or xs j 0) (sym (get_or-map f xs i 0 d at_i) ∙ same ∙ get_or-map f xs j 0 d at_j))
