-- Names that are compared with those of the players, one by one.
use Rattle.rbg_base.proofs.Common.{◌≡◌, ◌≢◌, ℕ, ◌+◌, ◌-◌, ◌<◌, ◌≤◌, List, [], ◌∷◌, ◌++◌, length, take, slice_get, Some, refl, sym, ap, ◌∙◌, arith, append_assoc, append-nil, length-append, length-take-le, Bool, true, false, not, take_more, slice_get_within, get_or_from_slice_get, bytes_eq, bytes_eq-Decides}
use Rattle.std.proofs.lemmas.Bool.{true≢false}
use Rattle.rbg_base.proofs.CallerLemmas.{slice_get-append_right}

-- the names begin with those of the first `index` players, and these are left
pub record AreFirstNames (names players left : List (List ℕ)) (index : ℕ) : Type 0 where
  pub within : index ≤ length players
  pub parts : names ≡ take index players ++ left

pub no_names_yet : (names players : List (List ℕ)) → AreFirstNames names players names 0
no_names_yet names players = record { within = omega arith; parts = refl }

pub one_more_name : (names players rest left : List (List ℕ)) (name : List ℕ) (index : ℕ) → AreFirstNames names players left index → left ≡ name ∷ rest → slice_get players (index + 1 - 1) ≡ Some name → AreFirstNames names players rest (index + 1)
one_more_name names players rest left name index first is found =
    let same : index + 1 - 1 ≡ index = omega arith in
    let there : slice_get players index ≡ Some name = rw same at found in
    let within = slice_get_within players index name there in
    record {
      within = omega arith;
      parts =
          first.parts
          ∙ (ap (λ more. take index players ++ more) is
          ∙ (sym (append_assoc (take index players) (name ∷ []) rest)
          ∙ ap (λ more. more ++ rest) (sym (take_more players index [] within ∙ ap (λ one. take index players ++ one ∷ []) (get_or_from_slice_get players index name [] there)))));
    }

pub too_few : (names players left : List (List ℕ)) (index : ℕ) → AreFirstNames names players left index → left ≡ [] → index < length players → names ≡ players → ⊥
too_few names players left index first none more same =
    let whole : players ≡ take index players = sym same ∙ (first.parts ∙ (ap (λ rest. take index players ++ rest) none ∙ append-nil (take index players))) in
    let count = length-take-le index players first.within in
    omega (arith, ap length whole)

pub other_name : (names players rest left : List (List ℕ)) (name other : List ℕ) (index : ℕ) → AreFirstNames names players left index → left ≡ name ∷ rest → slice_get players (index + 1 - 1) ≡ Some other → name ≢ other → names ≡ players → ⊥
other_name names players rest left name other index first is found differ same =
    let whole : players ≡ take index players ++ name ∷ rest = sym same ∙ (first.parts ∙ ap (λ more. take index players ++ more) is) in
    let count = length-take-le index players first.within in
    let here : slice_get (take index players ++ name ∷ rest) (length (take index players) + 0) ≡ Some name = slice_get-append_right (take index players) (name ∷ rest) 0 name refl in
    let place : length (take index players) + 0 ≡ index + 1 - 1 = omega arith in
    let there : slice_get players (index + 1 - 1) ≡ Some name = ap (λ list. slice_get list (index + 1 - 1)) whole ∙ (ap (λ at. slice_get (take index players ++ name ∷ rest) at) (sym place) ∙ here) in
    let both : Some name ≡ Some other = sym there ∙ found in
    differ cc

-- all players' names were found
take_all : (players : List (List ℕ)) → take (length players) players ≡ players
take_all [] = refl
take_all (name ∷ players) = ap (λ more. name ∷ more) (take_all players)

pub just_these : (names players left : List (List ℕ)) (index : ℕ) → AreFirstNames names players left index → index ≡ length players → left ≡ [] → names ≡ players
just_these names players left index first all none =
    first.parts ∙ ((λ i. take (all i) players ++ none i) ∙ (append-nil (take (length players) players) ∙ take_all players))

pub too_many : (names players left rest : List (List ℕ)) (name : List ℕ) (index : ℕ) → AreFirstNames names players left index → index ≡ length players → left ≡ name ∷ rest → names ≡ players → ⊥
too_many names players left rest name index first all is same =
    let whole : players ≡ players ++ name ∷ rest = sym same ∙ (first.parts ∙ ((λ i. take (all i) players ++ is i) ∙ ap (λ front. front ++ name ∷ rest) (take_all players))) in
    let longer = ap length whole ∙ length-append players (name ∷ rest) in
    omega arith

-- what a test of two texts means
other_not : (b : Bool) → not b ≡ false → b ≡ true
other_not true same = refl
other_not false same = absurd (true≢false same)

pub are_unlike : (one other : List ℕ) (unlike : Bool) → unlike ≡ not (bytes_eq one other) → unlike ≡ true → one ≢ other
are_unlike one other unlike is differ same = true≢false (sym differ ∙ (is ∙ ap not ((bytes_eq-Decides one other).1 same)))

pub are_alike : (one other : List ℕ) (unlike : Bool) → unlike ≡ not (bytes_eq one other) → unlike ≡ false → one ≡ other
are_alike one other unlike is equal = (bytes_eq-Decides one other).0 (other_not (bytes_eq one other) (sym is ∙ equal))
