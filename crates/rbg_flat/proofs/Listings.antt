-- Words of bits, of which those that have bits are listed.
use Rattle.rbg_base.proofs.Common.{◌≡◌, ◌≢◌, ℕ, ◌+◌, ◌-◌, ◌<◌, ◌≤◌, ◌⊎◌, List, [], ◌∷◌, ◌++◌, true, length, get_or, take, slice_set, sym, ap, ◌∙◌, subst, inl, inr, arith, Contains, All, AllPairs, nat_eq, ◌↔◌, list_any, IsDistinct, Decides-eqb, All-push, Contains-push, Contains-push_cases, Contains-append_left, Contains-get_or, All-contains, ℕ_discrete}
use Rattle.std.proofs.lemmas.Bool.{eqb-true}
use Rattle.std.proofs.lemmas.List.{length-set, length_push, get_or-set_same, get_or-set_other, length-take-le, take_more_set, take_more, get_or-take, get_or_default}
use Rattle.std.proofs.lemmas.List.Quantifiers.{all_pairs_push}
use Rattle.std.proofs.lemmas.Map.Made.{IsDistinct-from_AllPairs}
use Rattle.std.proofs.lemmas.Map.Steps.{length-le_from_distinct_below}
use Rattle.std.proofs.lemmas.Map.Views.{Contains-from_any}
use Rattle.rbg_flat.proofs.Common.{IsLastOf, AreListed}

module _ (words room : List ℕ) (many : ℕ) (are : AreListed words room many) where
  abbrev listed : List ℕ
  listed = take many room

  pub long : length listed ≡ many
  long = length-take-le many room are.within

  -- A word that gets bits where it had some.
  pub listed_set : (p x : ℕ) → p < length words → x ≢ 0 → get_or words p 0 ≢ 0 → AreListed (slice_set words p x) room many
  listed_set p x below some had = record {
    size = are.size ∙ sym (length-set words p x);
    within = are.within;
    below = are.below;
    different = are.different;
    told = told_of;
  }
    where
      told_of : (q : ℕ) → Contains listed q ↔ (get_or (slice_set words p x) q 0 ≢ 0)
      told_of q = elim (ℕ_discrete q p) [
        | yes same ↦ (
          λ _ none. some (sym (get_or-set_same words p x 0 below) ∙ sym (ap (λ (k : ℕ). get_or (slice_set words p x) k 0) same) ∙ none),
          λ _. (are.told q).1 (λ none. had (sym (ap (λ (k : ℕ). get_or words k 0) same) ∙ none)),
        )
        | no other ↦
            let kept = get_or-set_other words p q x 0 other in
            (λ there none. (are.told q).0 there (sym kept ∙ none), λ then. (are.told q).1 (λ none. then (kept ∙ none)))
      ]

  -- A word that gets bits where it had none.
  module _ (p x : ℕ) (below : p < length words) (some : x ≢ 0) (had : get_or words p 0 ≡ 0) where
    is_new : ¬ Contains listed p
    is_new there = (are.told p).0 there had

    below_room : p < length room
    below_room = let size = are.size in omega (arith, below, size)

    pushed_below : All (λ (q : ℕ). q < length room) (listed ++ p ∷ [])
    pushed_below = All-push (λ (q : ℕ). q < length room) listed p are.below below_room

    pushed_different : AllPairs (λ (q r : ℕ). q ≢ r) (listed ++ p ∷ [])
    pushed_different = all_pairs_push (λ (q r : ℕ). q ≢ r) listed p are.different (λ k d within same. is_new (subst (λ (y : ℕ). Contains listed y) same (Contains-get_or listed k d within)))

    -- There is room for it.
    pub has_room : many < length room
    has_room =
        let distinct : IsDistinct nat_eq (listed ++ p ∷ []) = IsDistinct-from_AllPairs Decides-eqb (listed ++ p ∷ []) pushed_different in
        let all : (y : ℕ) → list_any (nat_eq y) (listed ++ p ∷ []) ≡ true → y < length room = λ y any. All-contains (λ (q : ℕ). q < length room) (listed ++ p ∷ []) y pushed_below (Contains-from_any eqb-true y (listed ++ p ∷ []) any) in
        let short = length-le_from_distinct_below (listed ++ p ∷ []) (length room) distinct all in
        let more = length_push listed p in
        let length_is = long in
        omega (arith, short, more, length_is)

    grown : take (many + 1) (slice_set room many p) ≡ listed ++ p ∷ []
    grown = take_more_set room many p has_room

    room_size : length (slice_set room many p) ≡ length room
    room_size = length-set room many p

    told_of : (q : ℕ) → Contains (listed ++ p ∷ []) q ↔ (get_or (slice_set words p x) q 0 ≢ 0)
    told_of q = elim (ℕ_discrete q p) [
      | yes same ↦ (
        λ _ none. some (sym (get_or-set_same words p x 0 below) ∙ sym (ap (λ (k : ℕ). get_or (slice_set words p x) k 0) same) ∙ none),
        λ _. subst (λ (y : ℕ). Contains (listed ++ p ∷ []) y) (sym same) (Contains-push listed p),
      )
      | no other ↦
          let kept = get_or-set_other words p q x 0 other in (
            λ there none. (are.told q).0 (was q other (Contains-push_cases listed p q there)) (sym kept ∙ none),
            λ then. Contains-append_left listed (p ∷ []) q ((are.told q).1 (λ none. then (kept ∙ none))),
          )
    ]
      where
        was : (q : ℕ) → q ≢ p → Contains listed q ⊎ (p ≡ q) → Contains listed q
        was q other (inl there) = there
        was q other (inr same) = absurd (other (sym same))

    -- It is listed after the others.
    pub listed_more : AreListed (slice_set words p x) (slice_set room many p) (many + 1)
    listed_more = record {
      size = room_size ∙ are.size ∙ sym (length-set words p x);
      within = let more = has_room in let size = room_size in omega (arith, more, size);
      below = subst (λ (k : ℕ). All (λ (q : ℕ). q < k) (take (many + 1) (slice_set room many p))) (sym room_size) (subst (λ (xs : List ℕ). All (λ (q : ℕ). q < length room) xs) (sym grown) pushed_below);
      different = subst (λ (xs : List ℕ). AllPairs (λ (q r : ℕ). q ≢ r) xs) (sym grown) pushed_different;
      told = λ q. subst (λ (xs : List ℕ). Contains xs q ↔ (get_or (slice_set words p x) q 0 ≢ 0)) (sym grown) (told_of q);
    }

  -- The last that is listed, and what is left without it.
  module _ (some : 0 < many) where
    abbrev last : ℕ
    last = get_or room (many - 1) 0

    pub index_within : many - 1 < length room
    index_within = let within = are.within in omega (arith, within, some)

    pub last_listed : Contains listed last
    last_listed =
        let length_is = long in
        let at = get_or-take many room (many - 1) 0 (omega (arith, some)) in
        subst (λ (y : ℕ). Contains listed y) at (Contains-get_or listed (many - 1) 0 (omega (arith, length_is, some)))

    pub last_below : last < length words
    last_below =
        let below = All-contains (λ (q : ℕ). q < length room) listed last are.below last_listed in
        let size = are.size in
        omega (arith, below, size)

    pub last_has : get_or words last 0 ≢ 0
    last_has = (are.told last).0 last_listed

    pub is_last : IsLastOf listed last
    is_last =
        let length_is = long in
        record {
          some = omega (arith, length_is, some);
          last = ap (λ (k : ℕ). get_or listed (k - 1) 0) length_is ∙ get_or-take many room (many - 1) 0 (omega (arith, some));
        }

    rest_and_last : listed ≡ take (many - 1) room ++ last ∷ []
    rest_and_last =
        let one : many - 1 + 1 ≡ many = omega (arith, some) in
        ap (λ (k : ℕ). take k room) (sym one) ∙ take_more room (many - 1) 0 index_within

    rest_within : many - 1 ≤ length room
    rest_within = let within = index_within in omega (arith, within)

    rest_long : length (take (many - 1) room) ≡ many - 1
    rest_long = length-take-le (many - 1) room rest_within

    of_rest : (q : ℕ) → Contains (take (many - 1) room) q → Contains listed q
    of_rest q there = subst (λ (xs : List ℕ). Contains xs q) (sym rest_and_last) (Contains-append_left (take (many - 1) room) (last ∷ []) q there)

    other_than_last : (q : ℕ) → Contains (take (many - 1) room) q → q ≢ last
    other_than_last q (i, within, is) same =
        let rest = rest_long in
        let all = long in
        let at_i : get_or listed i 0 ≡ get_or room i 0 = get_or-take many room i 0 (omega (arith, within, rest)) in
        let at_rest : get_or (take (many - 1) room) i 0 ≡ get_or room i 0 = get_or-take (many - 1) room i 0 (omega (arith, within, rest)) in
        let at_last : get_or listed (many - 1) 0 ≡ last = get_or-take many room (many - 1) 0 (omega (arith, some)) in
        are.different i (many - 1) 0 (omega (arith, within, rest)) (omega (arith, all, some)) (at_i ∙ sym at_rest ∙ (get_or_default (take (many - 1) room) i 0 q within ∙ is) ∙ same ∙ sym at_last)

    -- Without it the others are listed.
    pub listed_less : (x : ℕ) → x ≡ 0 → AreListed (slice_set words last x) room (many - 1)
    listed_less x none = record {
      size = are.size ∙ sym (length-set words last x);
      within = rest_within;
      below = λ i d within. All-contains (λ (q : ℕ). q < length room) listed (get_or (take (many - 1) room) i d) are.below (of_rest (get_or (take (many - 1) room) i d) (Contains-get_or (take (many - 1) room) i d within));
      different = apart;
      told = told_without;
    }
      where
        apart : (i j d : ℕ) → i < j → j < length (take (many - 1) room) → get_or (take (many - 1) room) i d ≢ get_or (take (many - 1) room) j d
        apart i j d before below same =
            let rest = rest_long in
            let all = long in
            let first_i = get_or-take (many - 1) room i d (omega (arith, before, below, rest)) in
            let first_j = get_or-take (many - 1) room j d (omega (arith, below, rest)) in
            let all_i = get_or-take many room i d (omega (arith, before, below, rest)) in
            let all_j = get_or-take many room j d (omega (arith, below, rest)) in
            are.different i j d before (omega (arith, below, rest, all)) (all_i ∙ sym first_i ∙ same ∙ first_j ∙ sym all_j)

        told_without : (q : ℕ) → Contains (take (many - 1) room) q ↔ (get_or (slice_set words last x) q 0 ≢ 0)
        told_without q = elim (ℕ_discrete q last) [
          | yes same ↦
              let gone : get_or (slice_set words last x) q 0 ≡ 0 = ap (λ (y : ℕ). get_or (slice_set words last x) y 0) same ∙ get_or-set_same words last x 0 last_below ∙ none in
              (λ there. absurd (other_than_last q there same), λ then. absurd (then gone))
          | no other ↦
              let kept = get_or-set_other words last q x 0 other in (
                λ there gone. (are.told q).0 (of_rest q there) (sym kept ∙ gone),
                λ then. without other (subst (λ (xs : List ℕ). Contains xs q) rest_and_last ((are.told q).1 (λ gone. then (kept ∙ gone)))),
              )
        ]
          where
            by_case : q ≢ last → Contains (take (many - 1) room) q ⊎ (last ≡ q) → Contains (take (many - 1) room) q
            by_case other (inl there) = there
            by_case other (inr same) = absurd (other (sym same))

            without : q ≢ last → Contains (take (many - 1) room ++ last ∷ []) q → Contains (take (many - 1) room) q
            without other there = by_case other (Contains-push_cases (take (many - 1) room) last q there)

  -- The place of which it is said that it is the last, is.
  pub last_is : (p : ℕ) → IsLastOf listed p → (0 < many) × (get_or room (many - 1) 0 ≡ p)
  last_is p is =
      let length_is = long in
      let first = is.some in
      let some : 0 < many = omega (arith, length_is, first) in
      (some, sym (get_or-take many room (many - 1) 0 (omega (arith, some))) ∙ sym (ap (λ (k : ℕ). get_or listed (k - 1) 0) length_is) ∙ is.last)

  -- Where none is listed, no word has bits.
  pub all_clear : many ≡ 0 → (p : ℕ) → get_or words p 0 ≡ 0
  all_clear none p = elim (ℕ_discrete (get_or words p 0) 0) [
    | yes clear ↦ clear
    | no some ↦
        let there = (are.told p).1 some in
        let length_is = long in
        let within = there.1 in
        absurd (omega (arith, none, length_is, within))
  ]

-- The last place leaves the list where its word is cleared.
pub taken_last : (words room : List ℕ) (many : ℕ) → AreListed words room many → (p : ℕ) → IsLastOf (take many room) p → (x : ℕ) → x ≡ 0 → AreListed (slice_set words p x) room (many - 1)
taken_last words room many are p last x none =
    let at = last_is words room many are p last in
    subst (λ (q : ℕ). AreListed (slice_set words q x) room (many - 1)) at.1 (listed_less words room many are at.0 x none)
