-- Names of the language are ASCII, and so texts; lists of different names.
use Rattle.rbg_base.proofs.Common.{◌≡◌, ℕ, zero, suc, ◌<◌, List, [], ◌∷◌, ◌++◌, ◌⊎◌, inl, inr, true, Bool, Some, None, length, get_or, refl, sym, ◌∙◌, ap, arith, slice_get, Vec, Option, MatchOption, is_some, false, subst, BTreeMap, Global, Contains, is_eq, nat_cmp, IsUtf8, bytes_eq, nat_tests, bytes_eq-Decides, length-map, map-append, get_or-map, All-push, All-weaker, All-get_or, AllPass-from_list_all}
use Rattle.std.specs.BTreeMap.{Updates}
use Rattle.std.specs.Cmp.{eq_by_cmp_equiv}
use Rattle.std.specs.Cmp.Lexicographic.{slice_cmp, nat_list_cmp_total, nat_list_eq_equiv}
use Rattle.std.specs.Map.{lookup, IsKeyTest, AreApart, KeepsOthers}
use Rattle.std.proofs.lemmas.Bool.{true≢false}
use Rattle.std.proofs.lemmas.Map.Text.{is_eq-slice_cmp}
use Rattle.std.proofs.lemmas.Str.{IsUtf8-from_ascii}
use Rattle.std.proofs.lemmas.Str.Ascii.{IsAscii-from_all}
use Rattle.rbg_base.specs.Names.{is_name, is_name_part}
use Rattle.rbg_base.proofs.CallerLemmas.{name_parts, Contains-from_get, get_from-Contains, slice_get-append_left}
use Rattle.rbg_rules.specs.Meaning.{AreDifferentNames, AreLawfulNames, AreNames}
use Rattle.rbg_game.proofs.NumberingCommon.{bytes_of, GivesPlaces, number_for}
use Rattle.rbg_game.proofs.Lists.{slice_get-last}

name_part_is_ascii : (b : ℕ) → is_name_part b ≡ true → b < 128
name_part_is_ascii b h = grind (arith, nat_tests)

pub IsUtf8-from_is_name : (bs : List ℕ) → is_name bs ≡ true → IsUtf8 bs
IsUtf8-from_is_name bs h = IsUtf8-from_ascii bs (IsAscii-from_all bs (All-weaker (λ b. is_name_part b ≡ true) (λ b. b < 128) name_part_is_ascii bs (AllPass-from_list_all is_name_part bs (name_parts bs h))))

pub ruleset name_texts = (IsUtf8-from_is_name)

pub slice_get-push_cases : (xs : List (List ℕ)) (x y : List ℕ) (i : ℕ) → slice_get (xs ++ x ∷ []) i ≡ Some y → (slice_get xs i ≡ Some y) ⊎ ((i ≡ length xs) × (x ≡ y))
slice_get-push_cases [] x y zero is = inr (refl, cc)
slice_get-push_cases [] x y (suc i) is = cc
slice_get-push_cases (z ∷ zs) x y zero is = inl is
slice_get-push_cases (z ∷ zs) x y (suc i) is =
    elim (slice_get-push_cases zs x y i is) [ inl there ↦ inl there | inr last ↦ inr (ap suc last.0, last.1) ]

pub push_differs : (names : List (List ℕ)) (name : List ℕ) → AreDifferentNames names → ¬ Contains names name → (i j : ℕ) (x : List ℕ) → slice_get (names ++ name ∷ []) i ≡ Some x → slice_get (names ++ name ∷ []) j ≡ Some x → i ≡ j
push_differs names name differ new i j x first second =
    elim (slice_get-push_cases names name x i first) [
      | inl p ↦ elim (slice_get-push_cases names name x j second) [
        | inl q ↦ differ.one_number i j x p q
        | inr q ↦ absurd (new (Contains-from_get names i name (p ∙ ap Some (sym q.1))))
      ]
      | inr p ↦ elim (slice_get-push_cases names name x j second) [
        | inl q ↦ absurd (new (Contains-from_get names j name (q ∙ ap Some (sym p.1))))
        | inr q ↦ p.0 ∙ sym q.0
      ]
    ]

-- A name of the language that isn't among the others may be added to them.
pub AreLawfulNames-push : (names : List (List ℕ)) (name : List ℕ) → AreLawfulNames names → is_name name ≡ true → ¬ Contains names name → AreLawfulNames (names ++ name ∷ [])
AreLawfulNames-push names name lawful is new =
    record { names = All-push (λ n. is_name n ≡ true) names name lawful.names is; differ = record { one_number = push_differs names name lawful.differ new } }

apart_in_order : (bs cs ks : List ℕ) → bytes_eq bs cs ≡ false → is_eq (slice_cmp nat_cmp bs ks) ≡ true → is_eq (slice_cmp nat_cmp cs ks) ≡ false
apart_in_order bs cs ks apart same =
    is_eq-slice_cmp cs ks ∙ nat_list_eq_equiv.symm cs ks ∙ sym (nat_list_eq_equiv.congr bs ks cs (sym (is_eq-slice_cmp bs ks) ∙ same)) ∙ apart

other_entries : {K X : Type 0} (eq : K → K → Bool) (test : K → Bool) (old new : List (K × X)) → KeepsOthers eq test old new → (other : K → Bool) → IsKeyTest eq other → AreApart test other → lookup other new ≡ lookup other old
unfolding KeepsOthers
other_entries eq test old new h = h

-- An entry that is put into the map leaves the numbers of other texts.
number_for_other : (old new : BTreeMap (Vec ℕ Global) ℕ) (key : Vec ℕ Global) (n : ℕ) → Updates (λ x y. slice_cmp nat_cmp x.items y.items) old new key (Some n) → (text : List ℕ) → bytes_eq key.items text ≡ false → number_for new text ≡ number_for old text
number_for_other old new key n put text apart =
    other_entries _ _ old.entries new.entries put.3 (λ k. is_eq (slice_cmp nat_cmp text k.items)) (λ x y. (eq_by_cmp_equiv nat_list_cmp_total).congr text x.items y.items) (λ k. apart_in_order key.items text k.items apart)

-- A name that is put at the end takes its place there as its number.
pub GivesPlaces-push : (names : List (List ℕ)) (name : List ℕ) (old new : BTreeMap (Vec ℕ Global) ℕ) (key : Vec ℕ Global) (number : ℕ) → key.items ≡ name → number ≡ length names → Updates (λ x y. slice_cmp nat_cmp x.items y.items) old new key (Some number) → GivesPlaces names old → GivesPlaces (names ++ name ∷ []) new
GivesPlaces-push names name old new key number same last put places text = by_test (bytes_eq key.items text) refl
  where
    by_test : (r : Bool) → bytes_eq key.items text ≡ r → MatchOption (number_for new text) (¬ Contains (names ++ name ∷ []) text) (λ n. slice_get (names ++ name ∷ []) n ≡ Some text)
    by_test true is =
        let at : name ≡ text = sym same ∙ (bytes_eq-Decides key.items text).0 is in
        let found : number_for new text ≡ Some (length names) = subst (λ t. number_for new t ≡ Some number) (same ∙ at) put.1 ∙ ap Some last in
        rw found (slice_get-last names name ∙ ap Some at)
    by_test false is =
        rw (number_for_other old new key number put text is) (wider (number_for old text) (places text))
      where
        wider : (o : Option ℕ) → MatchOption o (¬ Contains names text) (λ n. slice_get names n ≡ Some text) → MatchOption o (¬ Contains (names ++ name ∷ []) text) (λ n. slice_get (names ++ name ∷ []) n ≡ Some text)
        wider None absent = λ has. let (n, at) = get_from-Contains (names ++ name ∷ []) text has in
            elim (slice_get-push_cases names name text n at) [
              | inl before ↦ absent (Contains-from_get names n text before)
              | inr end ↦ absurd (true≢false (sym ((bytes_eq-Decides key.items text).1 (same ∙ end.1)) ∙ is))
            ]
        wider (Some n) at = slice_get-append_left names (name ∷ []) n text at

pub bytes_of-push : (names : List (Vec ℕ Global)) (name : Vec ℕ Global) (text : List ℕ) → name.items ≡ text → bytes_of (names ++ name ∷ []) ≡ bytes_of names ++ text ∷ []
bytes_of-push names name text same = map-append (λ (n : Vec ℕ Global). n.items) names (name ∷ []) ∙ ap (λ (t : List ℕ). bytes_of names ++ t ∷ []) same

-- Each key is a name.
pub key_is_name : (keys : List (Vec ℕ Global)) (i : ℕ) (key : Vec ℕ Global) → AreNames (bytes_of keys) → i < length keys → key ≡ get_or keys i key → is_name key.items ≡ true
key_is_name keys i key names below is =
    let at = All-get_or (λ name. is_name name ≡ true) (bytes_of keys) i key.items (rw (length-map keys (λ (k : Vec ℕ Global). k.items)) below) names in
    ap is_name (ap (λ (k : Vec ℕ Global). k.items) is ∙ sym (get_or-map (λ (k : Vec ℕ Global). k.items) keys i key key.items below)) ∙ at

pub none_from_is_some : (o : Option ℕ) (P : Type 0) (Q : ℕ → Type 0) → is_some o ≡ false → MatchOption o P Q → P
none_from_is_some None P Q is h = h
none_from_is_some (Some x) P Q is h = cc

pub there_from_is_some : (names : List (List ℕ)) (text : List ℕ) (o : Option ℕ) → is_some o ≡ true → MatchOption o (¬ Contains names text) (λ n. slice_get names n ≡ Some text) → Contains names text
there_from_is_some names text None is h = cc
there_from_is_some names text (Some n) is h = Contains-from_get names n text h
