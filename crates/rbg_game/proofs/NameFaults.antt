-- Faults of names that are added after others, as faults of whole lists and of the description.
use Rattle.rbg_base.proofs.Common.{◌≡◌, ℕ, ◌+◌, ◌<◌, ◌≤◌, List, [], ◌∷◌, ◌++◌, inl, inr, Some, length, get_or, take, map, append-nil, refl, sym, ap, ◌∙◌, subst, append_assoc, arith, slice_get, Contains, take-map, map-append, All-append, Contains-append_left, Contains-append_right, Contains-append_cases, slice_get_within}
use Rattle.rbg_grammar.proofs.Common.{SpeltName, SpeltBounded, SpeltDescription, bounded_of}
use Rattle.rbg_grammar.specs.declared.description.Bounded.{Bounded}
use Rattle.rbg_rules.specs.Meaning.{max_bound}
use Rattle.rbg_game.proofs.Common.{GameError, holder_names, holders_of, OccursAgain, HasGreatBound, names_of_holders, HasFault, same_holder, same_piece, great_bound, memory, HasHolderFault, by_name, by_bound, AddsBounds}
use Rattle.rbg_game.proofs.NumberingCommon.{texts_of, OccursAfter, HasNameFault, same_name, no_memory}
use Rattle.rbg_game.proofs.LookUps.{name_fault_at}
use Rattle.rbg_base.proofs.CallerLemmas.{slice_get-map_at, Contains-from_get, get_from-Contains, slice_get-append_left, slice_get-append_right, AllZip-append}
use Rattle.rbg_game.proofs.Lists.{Contains-one, map_entry, entry_of_front, slice_get-map_read}

-- Names that are added.

abbrev pub names_in_list : List SpeltBounded → List SpeltName
names_in_list holders = map (λ holder. holder.name) holders

-- The names' texts are the holders' names.
pub texts_of-names : (holders : List SpeltBounded) → texts_of (names_in_list holders) ≡ holder_names holders
texts_of-names [] = refl
texts_of-names (h ∷ hs) = ap (λ l. h.name.text ∷ l) (texts_of-names hs)

names_before : (earlier table : List (List ℕ)) (holders : List SpeltBounded) (k : ℕ) → table ≡ earlier ++ holder_names (take k holders) → table ≡ earlier ++ texts_of (take k (names_in_list holders))
names_before earlier table holders k before =
    before ∙ ap (λ l. earlier ++ l) (sym (ap texts_of (take-map (λ (h : SpeltBounded). h.name) k holders) ∙ texts_of-names (take k holders)))

-- The same of players and variables.
holder_fault_at : (earlier table : List (List ℕ)) (holders : List SpeltBounded) (k : ℕ) (holder : SpeltBounded) (error : GameError) → slice_get holders k ≡ Some holder → table ≡ earlier ++ holder_names (take k holders) → HasHolderFault table (holder ∷ []) error → HasHolderFault earlier holders error
holder_fault_at earlier table holders k holder _ there before (by_name {error = error} h) =
    by_name (name_fault_at earlier table (names_in_list holders) k holder.name error (slice_get-map_at (λ (h : SpeltBounded). h.name) holders k holder there) (names_before earlier table holders k before) h)
holder_fault_at earlier table holders k holder _ there before (by_bound h) =
    by_bound (record { holder = h.holder; stands = subst (Contains holders) (Contains-one holder h.holder h.stands) (Contains-from_get holders k holder there); too_great = h.too_great; place = h.place })

-- the same in a loop over the holders
pub holder_fault_in_loop : (earlier table : List (List ℕ)) (holders : List Bounded) (k : ℕ) (holder : Bounded) (error : GameError) → k < length holders → holder ≡ get_or holders k holder
    → table ≡ earlier ++ holder_names (map bounded_of (take k holders)) → HasHolderFault table (bounded_of holder ∷ []) error → HasHolderFault earlier (map bounded_of holders) error
holder_fault_in_loop earlier table holders k holder error within is before =
    let same = ap (λ (l : List SpeltBounded). earlier ++ holder_names l) (sym (take-map bounded_of k holders)) in
    holder_fault_at earlier table (map bounded_of holders) k (bounded_of holder) error (slice_get-map_read bounded_of holders k holder within is) (before ∙ same)

-- Names that occur again after others occur twice in the whole list.
pub again_in_all : (before names after : List SpeltName) (at : ℕ) → OccursAfter (texts_of before) names at → OccursAgain ((before ++ names) ++ after) at
again_in_all before names after at h =
    let whole = (before ++ names) ++ after in
    let here : slice_get whole (length before + h.k) ≡ Some h.name = slice_get-append_left (before ++ names) after (length before + h.k) h.name (slice_get-append_right before names h.k h.name h.stands) in
    elim (Contains-append_cases (texts_of before) (texts_of (take h.k names)) h.name.text h.again) [
      | inl had ↦
          let there = get_from-Contains (texts_of before) h.name.text had in
          let entry = map_entry (λ (n : SpeltName). n.text) before there.0 h.name.text there.1 in
          let within : there.0 < length before = slice_get_within before there.0 entry.0 entry.1 in
          record {
            i = there.0;
            j = length before + h.k;
            earlier = entry.0;
            later = h.name;
            before = omega arith;
            first = slice_get-append_left (before ++ names) after there.0 entry.0 (slice_get-append_left before names there.0 entry.0 entry.1);
            second = here;
            same = entry.2;
            place = h.place;
          }
      | inr had ↦
          let there = get_from-Contains (texts_of (take h.k names)) h.name.text had in
          let entry = map_entry (λ (n : SpeltName). n.text) (take h.k names) there.0 h.name.text there.1 in
          let front = entry_of_front h.k names there.0 entry.0 entry.1 in
          record {
            i = length before + there.0;
            j = length before + h.k;
            earlier = entry.0;
            later = h.name;
            before = omega (arith, front.1);
            first = slice_get-append_left (before ++ names) after (length before + there.0) entry.0 (slice_get-append_right before names there.0 entry.0 front.0);
            second = here;
            same = entry.2;
            place = h.place;
          }
    ]

-- What is wrong with some of the players and variables is wrong with the description.
module _ (d : SpeltDescription) (before here after : List SpeltBounded) (all : holders_of d ≡ (before ++ here) ++ after) where
  whole_names : names_of_holders d ≡ (names_in_list before ++ names_in_list here) ++ names_in_list after
  whole_names =
      ap names_in_list all ∙ map-append (λ (h : SpeltBounded). h.name) (before ++ here) after
      ∙ ap (λ l. l ++ names_in_list after) (map-append (λ (h : SpeltBounded). h.name) before here)

  again_there : (at : ℕ) → OccursAfter (holder_names before) (names_in_list here) at → OccursAgain (names_of_holders d) at
  again_there at h =
      let P : List SpeltName → Type 0 = λ l. OccursAgain l at in
      let Q : List (List ℕ) → Type 0 = λ l. OccursAfter l (names_in_list here) at in
      subst P (sym whole_names)
      (again_in_all (names_in_list before) (names_in_list here) (names_in_list after) at (subst Q (sym (texts_of-names before)) h))

  bound_there : (at : ℕ) → HasGreatBound here at → HasGreatBound (holders_of d) at
  bound_there at h =
      let P : List SpeltBounded → Type 0 = λ l. Contains l h.holder in
      record {
        holder = h.holder;
        stands = subst P (sym all) (Contains-append_left (before ++ here) after h.holder (Contains-append_right before here h.holder h.stands));
        too_great = h.too_great;
        place = h.place;
      }

  names_fault : (error : GameError) → HasNameFault (holder_names before) (names_in_list here) error → HasFault d error
  names_fault _ (same_name {at = at} h) = same_holder (again_there at h)
  names_fault _ no_memory = memory

  pub holders_fault : (error : GameError) → HasHolderFault (holder_names before) here error → HasFault d error
  holders_fault _ (by_name {error = error} h) = names_fault error h
  holders_fault _ (by_bound {at = at} h) = great_bound (bound_there at h)

pub players_fault : (d : SpeltDescription) (error : GameError) → HasHolderFault [] d.players error → HasFault d error
players_fault d = holders_fault d [] d.players d.variables refl

pub variables_fault : (d : SpeltDescription) (error : GameError) → HasHolderFault (holder_names d.players) d.variables error → HasFault d error
variables_fault d = holders_fault d d.players d.variables [] (sym (append-nil (d.players ++ d.variables)))

pub pieces_fault : (d : SpeltDescription) (error : GameError) → HasNameFault [] d.pieces error → HasFault d error
pieces_fault d _ (same_name {at = at} h) =
    let P : List SpeltName → Type 0 = λ l. OccursAgain l at in
    same_piece (subst P (append-nil d.pieces) (again_in_all [] d.pieces [] at h))
pieces_fault d _ no_memory = memory

-- Bounds added twice.
pub AddsBounds-append : (first second : List SpeltBounded) (a b c : List ℕ) → AddsBounds first a b → AddsBounds second b c → AddsBounds (first ++ second) a c
AddsBounds-append first second a b c h k =
    record {
      added = h.added ++ k.added;
      after = k.after ∙ ap (λ l. l ++ k.added) h.after ∙ append_assoc a h.added k.added;
      bounds = AllZip-append _ first second h.added k.added h.bounds k.bounds;
      limit = All-append (λ bound. bound ≤ max_bound) h.added k.added h.limit k.limit;
    }
