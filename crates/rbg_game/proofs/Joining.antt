-- Names that join a table: the numbers that they have, and the order in which they are first used.
use Rattle.rbg_base.proofs.Common.{◌≡◌, ◌≢◌, ℕ, ◌+◌, ◌<◌, ◌≤◌, inl, inr, List, [], ◌∷◌, ◌++◌, Some, length, map, slice_get, slice_index, Contains, append-nil, append_assoc, refl, sym, ap, ◌∙◌, subst, arith, range_with_len, Contains-append_left, Contains-append_right, Contains-append_cases, slice_get_within, get_or-append_seam}
use Rattle.std.proofs.lemmas.List.{length-map, length-append, map-append, get_or_append_left}
use Rattle.std.proofs.lemmas.List.FromFn.{map-range_with_len_more, get_or-range_with_len}
use Rattle.std.proofs.lemmas.Slice.Zip.{AllZip-long, all_zipped_more}
use Rattle.rbg_base.proofs.CallerLemmas.{AllZip-weaker, Contains-from_get, get_from-Contains, slice_get-append_left}
use Rattle.rbg_board.specs.Cells.{AreDifferent}
use Rattle.rbg_grammar.specs.Tree.{SpeltName}
use Rattle.rbg_rules.specs.Meaning.{AreDifferentNames}
use Rattle.rbg_game.specs.declared.game_error.GameError.{GameError}
use Rattle.rbg_game.specs.declared.game_error.GameError.TheVariants as errors
use Rattle.rbg_game.proofs.NumberingCommon.{IsNumberOf, HasNameFault, same_name, no_memory}
use Rattle.rbg_game.proofs.Common.{IsOrderOfFirstUse, Joins, NumbersDirections, AddsInOrder}
use Rattle.rbg_game.proofs.Lists.{slice_get-last, Contains-one}
use Rattle.rbg_game.proofs.NameLemmas.{slice_get-push_cases, push_differs}
use Rattle.rbg_game.proofs.LookUps.{again_alone}

-- One name.

pub joins_known : (table : List (List ℕ)) (text : List ℕ) (n : ℕ) → slice_get table n ≡ Some text → Joins table table text n
joins_known table text n is = record { number = is; table = inl (slice_get_within table n text is, refl) }

pub joins_new : (table : List (List ℕ)) (text : List ℕ) → ¬ Contains table text → Joins table (table ++ text ∷ []) text (length table)
joins_new table text new = record { number = slice_get-last table text; table = inr (refl, refl, new) }

-- a new name is added, unless memory runs out
pub new_name_fault : (known : List (List ℕ)) (name : SpeltName) (error : GameError) → ¬ Contains known name.text → HasNameFault known (name ∷ []) error → error ≡ errors.Memory
new_name_fault known name _ fresh (same_name {at = at} h) = absurd (fresh (again_alone known name at h).0)
new_name_fault known name _ fresh no_memory = refl

-- what has a number keeps it
kept : (old new : List (List ℕ)) (text : List ℕ) (n : ℕ) → Joins old new text n → (k : ℕ) (name : List ℕ) → slice_get old k ≡ Some name → slice_get new k ≡ Some name
kept old new text n joins k name is = elim joins.table [
  | inl known ↦ rw known.1 is
  | inr added ↦ rw added.1 (slice_get-append_left old (text ∷ []) k name is)
]

pub grows : (old new : List (List ℕ)) (text : List ℕ) (n : ℕ) → Joins old new text n → length new ≤ length old + 1
grows old new text n joins = elim joins.table [
  | inl known ↦ omega (arith, ap length known.1)
  | inr added ↦ omega (arith, ap length added.1, length-append old (text ∷ []))
]

pub still_differ : (old new : List (List ℕ)) (text : List ℕ) (n : ℕ) → Joins old new text n → AreDifferentNames old → AreDifferentNames new
still_differ old new text n joins differ = elim joins.table [
  | inl known ↦ subst AreDifferentNames (sym known.1) differ
  | inr added ↦ subst AreDifferentNames (sym added.1) (record { one_number = push_differs old text differ added.2 })
]

-- Directions of rows.

range_more : (n : ℕ) → range_with_len 0 (n + 1) ≡ range_with_len 0 n ++ n ∷ []
range_more n = sym (map_same (range_with_len 0 (n + 1))) ∙ map-range_with_len_more (λ k. k) 0 n n (omega arith) ∙ ap (λ l. l ++ n ∷ []) (map_same (range_with_len 0 n))
  where
    map_same : (xs : List ℕ) → map (λ k. k) xs ≡ xs
    map_same [] = refl
    map_same (x ∷ xs) = ap (λ l. x ∷ l) (map_same xs)

front_different : (xs : List ℕ) (x : ℕ) → AreDifferent (xs ++ x ∷ []) → AreDifferent xs
unfolding AreDifferent
front_different xs x differ i j before within same =
    differ i j before (omega (arith, length-append xs (x ∷ []))) (get_or_append_left xs (x ∷ []) 0 i (omega arith) ∙ same ∙ sym (get_or_append_left xs (x ∷ []) 0 j within))

-- the last is none of those before it
last_differs : (xs : List ℕ) (x i : ℕ) → AreDifferent (xs ++ x ∷ []) → i < length xs → slice_index xs i ≢ x
unfolding AreDifferent
last_differs xs x i differ within same =
    differ i (length xs) within (omega (arith, length-append xs (x ∷ []))) (get_or_append_left xs (x ∷ []) 0 i within ∙ same ∙ sym (get_or-append_seam xs x [] 0))

pub none_numbered : NumbersDirections [] [] []
none_numbered =
    record { few = omega arith; named = tt; differ = record { one_number = λ i j name at_i at_j. absurd (let within = slice_get_within [] i name at_i in omega arith) }; in_order = λ differ. (refl, refl) }

pub one_more_numbered : (names : List SpeltName) (numbers : List ℕ) (old new : List (List ℕ)) (name : SpeltName) (n : ℕ) → NumbersDirections names numbers old → Joins old new name.text n → NumbersDirections (names ++ name ∷ []) (numbers ++ n ∷ []) new
one_more_numbered names numbers old new name n h joins =
    let count : length (names ++ name ∷ []) ≡ length names + 1 = length-append names (name ∷ []) in
    record {
      few = omega (arith, count, h.few, grows old new name.text n joins);
      named =
          all_zipped_more (IsNumberOf new) names numbers name n
          (AllZip-weaker (IsNumberOf old) (IsNumberOf new) (λ other k is. kept old new name.text n joins k other.text is) names numbers h.named) joins.number;
      differ = still_differ old new name.text n joins h.differ;
      in_order = λ differ.
          let before = h.in_order (front_different numbers n differ) in
          let long : length old ≡ length names = ap length before.1 ∙ length-map names (λ (m : SpeltName). m.text) in
          elim joins.table [
            | inl known ↦
                let below : n < length numbers = omega (arith, long, known.0, AllZip-long (IsNumberOf old) names numbers h.named) in
                let at : slice_index numbers n ≡ 0 + n = ap (λ l. slice_index l n) before.0 ∙ get_or-range_with_len 0 (length names) n 0 (omega (arith, long, known.0)) in
                absurd (last_differs numbers n n differ below (omega (arith, at)))
            | inr added ↦
                let is : n ≡ length names = added.0 ∙ long in (
                  ap (λ l. l ++ n ∷ []) before.0 ∙ ap (λ k. range_with_len 0 (length names) ++ k ∷ []) is ∙ sym (range_more (length names)) ∙ ap (range_with_len 0) (sym count),
                  added.1 ∙ ap (λ l. l ++ name.text ∷ []) before.1 ∙ sym (map-append (λ (m : SpeltName). m.text) names (name ∷ [])),
                )
          ];
    }

-- Order of first use.

-- what was used before another name still is, if one more name is used
module _ (used old : List (List ℕ)) (text : List ℕ) (order : IsOrderOfFirstUse used old) where
  used_before : (i j k : ℕ) (earlier later : List ℕ) → slice_get old i ≡ Some earlier → slice_get old j ≡ Some later → i < j → slice_get (used ++ text ∷ []) k ≡ Some later
      → (m : ℕ) × (m < k) × (slice_get (used ++ text ∷ []) m ≡ Some earlier)
  used_before i j k earlier later at_i at_j below at_k = elim (slice_get-push_cases used text later k at_k) [
    | inl before ↦
        let found = order.in_order i j k earlier later at_i at_j below before in
        (found.0, found.1, slice_get-append_left used (text ∷ []) found.0 earlier found.2)
    | inr now ↦
        let there = get_from-Contains used later (order.only later (Contains-from_get old j later at_j)) in
        let found = order.in_order i j there.0 earlier later at_i at_j below there.1 in
        (found.0, omega (arith, found.1, slice_get_within used there.0 later there.1, now.0), slice_get-append_left used (text ∷ []) found.0 earlier found.2)
  ]

  used_again : Contains old text → IsOrderOfFirstUse (used ++ text ∷ []) old
  used_again known =
      record {
        differ = order.differ;
        all = λ name has. elim (Contains-append_cases used (text ∷ []) name has) [ inl before ↦ order.all name before | inr now ↦ subst (Contains old) (Contains-one text name now) known ];
        only = λ name has. Contains-append_left used (text ∷ []) name (order.only name has);
        in_order = used_before;
      }

  used_first : ¬ Contains old text → IsOrderOfFirstUse (used ++ text ∷ []) (old ++ text ∷ [])
  used_first new =
      record {
        differ = record { one_number = push_differs old text order.differ new };
        all = λ name has. elim (Contains-append_cases used (text ∷ []) name has) [
          | inl before ↦ Contains-append_left old (text ∷ []) name (order.all name before)
          | inr now ↦ Contains-append_right old (text ∷ []) name now
        ];
        only = λ name has. elim (Contains-append_cases old (text ∷ []) name has) [
          | inl before ↦ Contains-append_left used (text ∷ []) name (order.only name before)
          | inr now ↦ Contains-append_right used (text ∷ []) name now
        ];
        in_order = λ i j k earlier later at_i at_j below at_k. elim (slice_get-push_cases old text later j at_j) [
          | inl j_old ↦
              let within : j < length old = slice_get_within old j later j_old in
              let i_old : slice_get old i ≡ Some earlier = in_front i earlier at_i (omega (arith, within, below)) in
              used_before i j k earlier later i_old j_old below at_k
          | inr j_new ↦
              let i_old : slice_get old i ≡ Some earlier = in_front i earlier at_i (omega (arith, j_new.0, below)) in
              let there = get_from-Contains used earlier (order.only earlier (Contains-from_get old i earlier i_old)) in
              elim (slice_get-push_cases used text later k at_k) [
                | inl k_old ↦ absurd (new (subst (Contains old) (sym j_new.1) (order.all later (Contains-from_get used k later k_old))))
                | inr k_new ↦
                    (there.0, omega (arith, slice_get_within used there.0 earlier there.1, k_new.0), slice_get-append_left used (text ∷ []) there.0 earlier there.1)
              ]
        ];
      }
    where
      in_front : (i : ℕ) (name : List ℕ) → slice_get (old ++ text ∷ []) i ≡ Some name → i < length old → slice_get old i ≡ Some name
      in_front i name at within = elim (slice_get-push_cases old text name i at) [ inl here ↦ here | inr last ↦ absurd (omega (arith, last.0)) ]

-- one more name is used
pub first_use_join : (used old new : List (List ℕ)) (text : List ℕ) (n : ℕ) → Joins old new text n → IsOrderOfFirstUse used old → IsOrderOfFirstUse (used ++ text ∷ []) new
first_use_join used old new text n joins order = elim joins.table [
  | inl known ↦
      let there : Contains old text = Contains-from_get old n text (subst (λ t. slice_get t n ≡ Some text) known.1 joins.number) in
      subst (IsOrderOfFirstUse (used ++ text ∷ [])) (sym known.1) (used_again used old text order there)
  | inr added ↦ subst (IsOrderOfFirstUse (used ++ text ∷ [])) (sym added.1) (used_first used old text order added.2)
]

pub no_use : IsOrderOfFirstUse [] []
no_use =
    record {
      differ = record { one_number = λ i j name at_i at_j. absurd (nothing i name at_i) };
      all = λ name has. has;
      only = λ name has. has;
      in_order = λ i j k earlier later at_i at_j below at_k. absurd (nothing i earlier at_i);
    }
  where
    nothing : (i : ℕ) (name : List ℕ) → slice_get [] i ≡ Some name → ⊥
    nothing i name at = let within = slice_get_within [] i name at in omega arith

-- the directions of one more edge join the table
pub adds_none : (table : List (List ℕ)) → AddsInOrder [] table table
adds_none table = record { in_order = λ used order. subst (λ l. IsOrderOfFirstUse l table) (sym (append-nil used)) order }

pub adds_one : (names old mid new : List (List ℕ)) (text : List ℕ) (n : ℕ) → AddsInOrder names old mid → Joins mid new text n → AddsInOrder (names ++ text ∷ []) old new
adds_one names old mid new text n h joins =
    record { in_order = λ used order. subst (λ l. IsOrderOfFirstUse l new) (append_assoc used names (text ∷ [])) (first_use_join (used ++ names) mid new text n joins (h.in_order used order)) }
