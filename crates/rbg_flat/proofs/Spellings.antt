-- Words of vertices, as lists of pairs.
use Rattle.rbg_base.proofs.Common.{◌≡◌, ◌≢◌, ℕ, zero, suc, ◌+◌, ◌*◌, ◌/◌, ◌%◌, ◌^◌, ◌<◌, ◌≤◌, inl, inr, List, [], ◌∷◌, ◌++◌, length, map, take, drop, set, get_or, slice_get, Some, All, Contains, Bool, true, false, refl, sym, ap, subst, ◌∙◌, append_assoc, append-nil, arith, add-one, IsTrue, ◌↔◌, bit_at, trailing_zeros, w64, IsPermutation, Contains-append_cases, Contains-append_left, Contains-append_right, Contains-push_cases, All-push, flat_map-append, cases_lt, cases_order, bit_at_lowest, bit_at-suc, bit_at-zero, bit_at-trailing_zeros, bit_at_above, get_or_from_slice_get, flat_map_more, take_more, length_push, get_or_append_left, get_or_push, All-contains}
use Rattle.std.proofs.lemmas.List.{take-append-drop, drop_more, take-set, drop-set}
use Rattle.std.proofs.lemmas.List.Sorted.{IsPermutation-trans, IsPermutation-middle, IsPermutation-append_comm, IsPermutation-append_left, IsPermutation-append_right}
use Rattle.rbg_flat.proofs.Common.{IsBefore, IsLeast, with_first, next, bits, pairs_of, pairs_in, first_of, IsFilled, at_position, PushesWord, Word}
use Rattle.rbg_flat.proofs.Ones.{bits_list, place, word_lists}

-- What stands for a word where there is none.
abbrev pub no_word : Word
no_word = record { base = 0; position = 0; bits = 0 }

pub not_told : (b : Bool) (P : Type 0) → IsTrue b ↔ P → b ≡ false → ¬ P
not_told b P tells is holds = absurd (true_not_false (sym (tells.1 holds) ∙ is))
  where
    true_not_false : true ≡ false → ⊥
    true_not_false e = cc

-- ---- the bits of a number

-- The same bits make the same list.
bits_same : (k n m : ℕ) → ((b : ℕ) → bit_at n b ≡ bit_at m b) → bits k n ≡ bits k m
unfolding bits
bits_same zero n m same = refl
bits_same (suc k) n m same =
    let lowest : n % 2 ≡ m % 2 = sym (bit_at_lowest n) ∙ same 0 ∙ bit_at_lowest m in
    let rest : bits k (n / 2) ≡ bits k (m / 2) = bits_same k (n / 2) (m / 2) (λ b. sym (bit_at-suc n b) ∙ same (suc b) ∙ bit_at-suc m b) in
    λ i. with_first (lowest i) (map next (rest i))

pub bits_none : (k n : ℕ) → n ≡ 0 → bits k n ≡ []
unfolding bits
bits_none zero n none = refl
bits_none (suc k) n none =
    let lowest : n % 2 ≡ 0 = omega (arith, none) in
    let rest : bits k (n / 2) ≡ [] = bits_none k (n / 2) (omega (arith, none)) in
    λ i. with_first (lowest i) (map next (rest i))

-- The lowest bit stands first, and then the others.
pub bits_first : (k n rest bit : ℕ) → bit < k → bit_at n bit ≡ 1 → ((b : ℕ) → b < bit → bit_at n b ≡ 0) → bit_at rest bit ≡ 0 → ((b : ℕ) → b ≢ bit → bit_at rest b ≡ bit_at n b) → bits k n ≡ bit ∷ bits k rest
unfolding bits
bits_first zero n rest bit below set_there none gone others = absurd (omega (arith, below))
bits_first (suc k) n rest zero below set_there none gone others =
    let one : n % 2 ≡ 1 = sym (bit_at_lowest n) ∙ set_there in
    let other : rest % 2 ≡ 0 = sym (bit_at_lowest rest) ∙ gone in
    let same : bits k (n / 2) ≡ bits k (rest / 2) = bits_same k (n / 2) (rest / 2) (λ b. sym (bit_at-suc n b) ∙ sym (others (suc b) (λ e. not_zero b e)) ∙ bit_at-suc rest b) in
    (λ i. with_first (one i) (map next (same i))) ∙ (λ i. 0 ∷ with_first (sym other i) (map next (bits k (rest / 2))))
  where
    not_zero : (b : ℕ) → suc b ≡ 0 → ⊥
    not_zero b e = omega (arith, e)
bits_first (suc k) n rest (suc bit) below set_there none gone others =
    let one : n % 2 ≡ 0 = sym (bit_at_lowest n) ∙ none 0 (omega arith) in
    let other : rest % 2 ≡ 0 = sym (bit_at_lowest rest) ∙ others 0 (λ e. not_suc e) ∙ none 0 (omega arith) in
    let inner : bits k (n / 2) ≡ bit ∷ bits k (rest / 2) =
    bits_first k (n / 2) (rest / 2) bit (omega (arith, below)) (sym (bit_at-suc n bit) ∙ set_there)
    (λ b less. sym (bit_at-suc n b) ∙ none (suc b) (omega (arith, less)))
    (sym (bit_at-suc rest bit) ∙ gone)
    (λ b differs. sym (bit_at-suc rest b) ∙ others (suc b) (λ e. differs (same_before b e)) ∙ bit_at-suc n b) in
    (λ i. with_first (one i) (map next (inner i))) ∙ (λ i. add-one bit i ∷ with_first (sym other i) (map next (bits k (rest / 2))))
  where
    not_suc : 0 ≡ suc bit → ⊥
    not_suc e = omega (arith, e)

    same_before : (b : ℕ) → suc b ≡ suc bit → b ≡ bit
    same_before b e = omega (arith, e)

-- ---- the pairs of a word

-- A word with a bit less.
abbrev pub with_bits : Word → ℕ → Word
with_bits w rest = record { base = w.base; position = w.position; bits = rest }

pub pairs_first : (w : Word) (rest bit : ℕ) → bit < 64 → bit_at w.bits bit ≡ 1 → ((b : ℕ) → b < bit → bit_at w.bits b ≡ 0) → bit_at rest bit ≡ 0 → ((b : ℕ) → b ≢ bit → bit_at rest b ≡ bit_at w.bits b) → pairs_of w ≡ (w.base + bit, w.position) ∷ pairs_of (with_bits w rest)
unfolding pairs_of
pairs_first w rest bit below set_there none gone others =
    ap (map (λ (b : ℕ). (w.base + b, w.position))) (bits_first 64 w.bits rest bit below set_there none gone others)

pub pairs_none : (w : Word) → w.bits ≡ 0 → pairs_of w ≡ []
unfolding pairs_of
pairs_none w none = ap (map (λ (b : ℕ). (w.base + b, w.position))) (bits_none 64 w.bits none)

module _ (f : ℕ → ℕ × ℕ) where
  in_map : (xs : List ℕ) (q : ℕ × ℕ) → Contains (map f xs) q → (x : ℕ) × Contains xs x × (f x ≡ q)
  in_map [] q (k, under, is) = absurd (omega (arith, under))
  in_map (x ∷ xs) q (zero, under, is) = (x, (0, omega arith, refl), is)
  in_map (x ∷ xs) q (suc k, under, is) =
      let more = in_map xs q (k, omega (arith, under), is) in
      let there = more.1 in
      (more.0, (suc there.0, omega (arith, there.1), there.2), more.2)

  of_map : (xs : List ℕ) (x : ℕ) → Contains xs x → Contains (map f xs) (f x)
  of_map [] x (k, under, is) = absurd (omega (arith, under))
  of_map (y ∷ xs) x (zero, under, is) = (0, omega arith, ap f is)
  of_map (y ∷ xs) x (suc k, under, is) =
      let more = of_map xs x (k, omega (arith, under), is) in
      (suc more.0, omega (arith, more.1), more.2)

-- A pair of a word is one of its bits.
pub record IsPairOf (w : Word) (x : ℕ × ℕ) : Type 0 where
  pub bit : ℕ
  pub below : bit < 64
  pub set_there : bit_at w.bits bit ≡ 1
  pub is : (w.base + bit, w.position) ≡ x

pub pair_of : (w : Word) (x : ℕ × ℕ) → Contains (pairs_of w) x → IsPairOf w x
unfolding pairs_of
pair_of w x there =
    let from = in_map (λ (b : ℕ). (w.base + b, w.position)) (bits 64 w.bits) x there in
    let bit = ((bits_list 64 w.bits).all from.0).0 from.1 in
    record { bit = from.0; below = bit.0; set_there = bit.1; is = from.2 }

pub position_of : (w : Word) (x : ℕ × ℕ) → Contains (pairs_of w) x → w.position ≡ x.1
position_of w x there = ap (λ (q : ℕ × ℕ). q.1) (pair_of w x there).is

-- A bit of a word is one of its pairs.
pub pair_there : (w : Word) (bit : ℕ) → bit < 64 → bit_at w.bits bit ≡ 1 → Contains (pairs_of w) (w.base + bit, w.position)
unfolding pairs_of
pair_there w bit below set_there =
    of_map (λ (b : ℕ). (w.base + b, w.position)) (bits 64 w.bits) bit (((bits_list 64 w.bits).all bit).1 (below, set_there))

pub first_there : (w : Word) → IsFilled w → Contains (pairs_of w) (first_of w)
first_there w filled =
    let lowest = bit_at-trailing_zeros w64 w.bits filled.some filled.small in
    pair_there w (trailing_zeros w64 w.bits) lowest.0 lowest.1

not_both : {n : ℕ} → n ≡ 0 → n ≡ 1 → ⊥
not_both none one = omega (arith, none, one)

-- No pair of a word stands before its first one.
pub first_least : (w : Word) → IsFilled w → IsLeast (pairs_of w) (first_of w)
first_least w filled x there before =
    let lowest = bit_at-trailing_zeros w64 w.bits filled.some filled.small in
    let pair = pair_of w x there in
    let vertex : w.base + pair.bit ≡ x.0 = ap (λ (q : ℕ × ℕ). q.0) pair.is in
    let position : w.position ≡ x.1 = ap (λ (q : ℕ × ℕ). q.1) pair.is in
    elim before [
      | inl less ↦ not_both (lowest.2 pair.bit (omega (arith, less, vertex))) pair.set_there
      | inr same ↦ let less = same.1 in omega (arith, less, position)
    ]

-- ---- the pairs of several words

pub in_flat : (words : List Word) (x : ℕ × ℕ) → Contains (pairs_in words) x → (w : Word) × Contains words w × Contains (pairs_of w) x
in_flat [] x (k, under, is) = absurd (omega (arith, under))
in_flat (w ∷ words) x there = elim (Contains-append_cases (pairs_of w) (pairs_in words) x there) [
  | inl first ↦ (w, (0, omega arith, refl), first)
  | inr later ↦
      let more = in_flat words x later in
      let at = more.1 in
      (more.0, (suc at.0, omega (arith, at.1), at.2), more.2)
]

pub of_flat : (words : List Word) (w : Word) (x : ℕ × ℕ) → Contains words w → Contains (pairs_of w) x → Contains (pairs_in words) x
of_flat [] w x (k, under, is) there = absurd (omega (arith, under))
of_flat (v ∷ words) w x (zero, under, is) there = Contains-append_left (pairs_of v) (pairs_in words) x (subst (λ (u : Word). Contains (pairs_of u) x) (sym is) there)
of_flat (v ∷ words) w x (suc k, under, is) there = Contains-append_right (pairs_of v) (pairs_in words) x (of_flat words w x (k, omega (arith, under), is) there)

-- ---- the order

pub before_both : (a b c : ℕ × ℕ) → IsBefore a b → IsBefore b c → IsBefore a c
before_both a b c (inl one) (inl other) = inl (omega (arith, one, other))
before_both a b c (inl one) (inr (same, less)) = inl (omega (arith, one, same))
before_both a b c (inr (same, less)) (inl other) = inl (omega (arith, other, same))
before_both a b c (inr (same, less)) (inr (same', less')) = inr (same ∙ same', omega (arith, less, less'))

pub before_itself : (a : ℕ × ℕ) → ¬ IsBefore a a
before_itself a (inl less) = omega (arith, less)
before_itself a (inr (same, less)) = omega (arith, less)

-- What isn't before another one, and is before a third, is after the other one.
pub sooner : (x y q : ℕ × ℕ) → ¬ IsBefore x y → IsBefore x q → IsBefore y q
sooner x y q not_before (inl less) = elim (cases_order x.0 y.0) [
  | inl same ↦ inl (omega (arith, same, less))
  | inr other ↦ elim other [
    | inl one ↦ absurd (not_before (inl one))
    | inr one ↦ inl (omega (arith, one, less))
  ]
]
sooner x y q not_before (inr (same, less)) = elim (cases_order x.0 y.0) [
  | inl first_same ↦ elim (cases_order x.1 y.1) [
    | inl e ↦ inr (sym first_same ∙ same, omega (arith, e, less))
    | inr other ↦ elim other [
      | inl one ↦ absurd (not_before (inr (first_same, one)))
      | inr one ↦ inr (sym first_same ∙ same, omega (arith, one, less))
    ]
  ]
  | inr other ↦ elim other [
    | inl one ↦ absurd (not_before (inl one))
    | inr one ↦ inl (omega (arith, one, same))
  ]
]

pub not_sooner : (a b c : ℕ × ℕ) → ¬ IsBefore a b → ¬ IsBefore b c → ¬ IsBefore a c
not_sooner a b c one other before = other (sooner a b c one before)

-- ---- what is taken away

abbrev Pairs : Type 0
Pairs = List (ℕ × ℕ)

-- The words around one of them.
words_around : (words : List Word) (i : ℕ) (w : Word) → i < length words → get_or words i w ≡ w → words ≡ take i words ++ w ∷ drop (i + 1) words
words_around words i w under is =
    sym (take-append-drop i words) ∙ ap (λ (zs : List Word). take i words ++ zs) (drop_more words i w under) ∙ ap (λ (z : Word). take i words ++ z ∷ drop (i + 1) words) is

words_with : (words : List Word) (i : ℕ) (w : Word) → i < length words → set words i w ≡ take i words ++ w ∷ drop (i + 1) words
words_with words i w under =
    sym (take-append-drop i (set words i w)) ∙ ap (λ (zs : List Word). take i (set words i w) ++ zs) (drop-set words i w under) ∙ ap (λ (zs : List Word). zs ++ w ∷ drop (i + 1) words) (take-set words i w)

flat_around : (front back : List Word) (w : Word) → pairs_in (front ++ w ∷ back) ≡ pairs_in front ++ (pairs_of w ++ pairs_in back)
flat_around front back w = flat_map-append pairs_of front (w ∷ back)

-- A word without its first pair.
pub taken_first : (words : List Word) (i : ℕ) (w w' : Word) (q : ℕ × ℕ) → i < length words → get_or words i w ≡ w → pairs_of w ≡ q ∷ pairs_of w' → IsPermutation (pairs_in words) (q ∷ pairs_in (set words i w'))
taken_first words i w w' q under is first =
    let front : Pairs = pairs_in (take i words) in
    let back : Pairs = pairs_in (drop (i + 1) words) in
    let old : pairs_in words ≡ front ++ (q ∷ (pairs_of w' ++ back)) = ap pairs_in (words_around words i w under is) ∙ flat_around (take i words) (drop (i + 1) words) w ∙ ap (λ (ps : Pairs). front ++ (ps ++ back)) first in
    let new : pairs_in (set words i w') ≡ front ++ (pairs_of w' ++ back) = ap pairs_in (words_with words i w' under) ∙ flat_around (take i words) (drop (i + 1) words) w' in
    subst (λ (ps : Pairs). IsPermutation ps (q ∷ pairs_in (set words i w'))) (sym old)
    (subst (λ (ps : Pairs). IsPermutation (front ++ (q ∷ (pairs_of w' ++ back))) (q ∷ ps)) (sym new)
    (IsPermutation-middle front q (pairs_of w' ++ back)))

-- One part goes to the front, and the last one takes its place.
moved : (a w b l : Pairs) → IsPermutation ((a ++ (w ++ b)) ++ l) (w ++ (a ++ (l ++ b)))
moved a w b l =
    let joined : (a ++ (w ++ b)) ++ l ≡ a ++ (w ++ (b ++ l)) = append_assoc a (w ++ b) l ∙ ap (λ (ps : Pairs). a ++ ps) (append_assoc w b l) in
    subst (λ (ps : Pairs). IsPermutation ps (w ++ (a ++ (l ++ b)))) (sym joined)
    (IsPermutation-trans (a ++ (w ++ (b ++ l))) (a ++ (w ++ (l ++ b))) (w ++ (a ++ (l ++ b)))
    (IsPermutation-append_right a (w ++ (b ++ l)) (w ++ (l ++ b)) (IsPermutation-append_right w (b ++ l) (l ++ b) (IsPermutation-append_comm b l)))
    (swapped (l ++ b)))
  where
    swapped : (c : Pairs) → IsPermutation (a ++ (w ++ c)) (w ++ (a ++ c))
    swapped c =
        subst (λ (ps : Pairs). IsPermutation ps (w ++ (a ++ c))) (append_assoc a w c)
        (subst (λ (ps : Pairs). IsPermutation ((a ++ w) ++ c) ps) (append_assoc w a c)
        (IsPermutation-append_left c (a ++ w) (w ++ a) (IsPermutation-append_comm a w)))

-- A word is gone, and the last one stands in its place.
pub dropped_inside : (words init : List Word) (last w : Word) (i : ℕ) → words ≡ init ++ last ∷ [] → i < length init → get_or init i w ≡ w → IsPermutation (pairs_in words) (pairs_of w ++ pairs_in (set init i last))
dropped_inside words init last w i whole under is =
    let a : Pairs = pairs_in (take i init) in
    let b : Pairs = pairs_in (drop (i + 1) init) in
    let l : Pairs = pairs_of last in
    let inner : pairs_in init ≡ a ++ (pairs_of w ++ b) = ap pairs_in (words_around init i w under is) ∙ flat_around (take i init) (drop (i + 1) init) w in
    let old : pairs_in words ≡ (a ++ (pairs_of w ++ b)) ++ l = ap pairs_in whole ∙ flat_map-append pairs_of init (last ∷ []) ∙ ap (λ (ps : Pairs). pairs_in init ++ ps) (append-nil l) ∙ ap (λ (ps : Pairs). ps ++ l) inner in
    let new : pairs_in (set init i last) ≡ a ++ (l ++ b) = ap pairs_in (words_with init i last under) ∙ flat_around (take i init) (drop (i + 1) init) last in
    subst (λ (ps : Pairs). IsPermutation ps (pairs_of w ++ pairs_in (set init i last))) (sym old)
    (subst (λ (ps : Pairs). IsPermutation ((a ++ (pairs_of w ++ b)) ++ l) (pairs_of w ++ ps)) (sym new) (moved a (pairs_of w) b l))

-- The last word is gone.
pub dropped_last : (words init : List Word) (last : Word) → words ≡ init ++ last ∷ [] → IsPermutation (pairs_in words) (pairs_of last ++ pairs_in init)
dropped_last words init last whole =
    let old : pairs_in words ≡ pairs_in init ++ pairs_of last = ap pairs_in whole ∙ flat_map-append pairs_of init (last ∷ []) ∙ ap (λ (ps : Pairs). pairs_in init ++ ps) (append-nil (pairs_of last)) in
    subst (λ (ps : Pairs). IsPermutation ps (pairs_of last ++ pairs_in init)) (sym old) (IsPermutation-append_comm (pairs_in init) (pairs_of last))

-- ---- words that are put after others

abbrev pub one_pair : (v p : ℕ) → Word
one_pair v p = record { base = v; position = p; bits = 1 }

one_bit : (b : ℕ) → bit_at 1 b ≡ 1 → b ≡ 0
one_bit zero is = refl
one_bit (suc b) is = absurd (not_both (bit_at-suc 1 b ∙ bit_at-zero b) is)

other_bit : (b : ℕ) → b ≢ 0 → bit_at 0 b ≡ bit_at 1 b
other_bit zero other = absurd (other refl)
other_bit (suc b) other = bit_at-zero (suc b) ∙ sym (bit_at-suc 1 b ∙ bit_at-zero b)

pub one_filled : (v p : ℕ) → v < 2 ^ 32 → IsFilled (one_pair v p)
one_filled v p small = record {
  some = omega arith;
  small = omega arith;
  fits = λ b is. let none = one_bit b is in omega (arith, small, none);
}

none_below : (b : ℕ) → b < 0 → bit_at 1 b ≡ 0
none_below b less = absurd (omega (arith, less))

pub pairs_one : (v p : ℕ) → pairs_of (one_pair v p) ≡ (v, p) ∷ []
pairs_one v p =
    let same : v + 0 ≡ v = omega arith in
    pairs_first (one_pair v p) 0 0 (omega arith) (bit_at_lowest 1) none_below (bit_at-zero 0) other_bit
    ∙ (λ i. (same i, p) ∷ pairs_none (with_bits (one_pair v p) 0) refl i)

pub pushed_pair : (words new : List Word) (before : Pairs) (v p : ℕ) → new ≡ words ++ one_pair v p ∷ [] → pairs_in words ≡ before → pairs_in new ≡ before ++ (v, p) ∷ []
pushed_pair words new before v p pushed was =
    ap pairs_in pushed ∙ flat_map-append pairs_of words (one_pair v p ∷ []) ∙ ap (λ (ps : Pairs). pairs_in words ++ ps) (append-nil (pairs_of (one_pair v p)) ∙ pairs_one v p) ∙ ap (λ (ps : Pairs). ps ++ (v, p) ∷ []) was

pub pushed_filled : (words new : List Word) (w : Word) → new ≡ words ++ w ∷ [] → All IsFilled words → IsFilled w → All IsFilled new
pushed_filled words new w pushed all one = subst (All IsFilled) (sym pushed) (All-push IsFilled words w all one)

pub bit_below : (word b : ℕ) → word < 2 ^ 64 → bit_at word b ≡ 1 → b < 64
bit_below word b small is = elim (cases_lt b 64) [
  | inl below ↦ below
  | inr above ↦ absurd (not_both (bit_at_above word 64 b small above) is)
]

pub column_filled : (c p word : ℕ) → c < 2 ^ 25 → 0 < word → word < 2 ^ 64 → IsFilled (record { base = c * 64; position = p; bits = word })
column_filled c p word narrow some small = record {
  some = some;
  small = small;
  fits = λ b is. let below = bit_below word b small is in omega (arith, below, narrow);
}

-- The position with each vertex of the word.
column_pairs : (c p word : ℕ) → pairs_of (record { base = c * 64; position = p; bits = word }) ≡ at_position p (map (place c) (bits 64 word))
unfolding pairs_of
column_pairs c p word = at_each (bits 64 word)
  where
    at_each : (bs : List ℕ) → map (λ (b : ℕ). (c * 64 + b, p)) bs ≡ at_position p (map (place c) bs)
    at_each [] = refl
    at_each (b ∷ bs) = ap (λ (ps : Pairs). (c * 64 + b, p) ∷ ps) (at_each bs)

pub pushed_word : (words new : List Word) (before : Pairs) (c p word : ℕ) → new ≡ words ++ (record { base = c * 64; position = p; bits = word }) ∷ [] → pairs_in words ≡ before → PushesWord before (pairs_in new) p c word
pushed_word words new before c p word pushed was =
    let w : Word = record { base = c * 64; position = p; bits = word } in
    record {
      vertices = map (place c) (bits 64 word);
      lists = word_lists c word;
      grown = ap pairs_in pushed ∙ flat_map-append pairs_of words (w ∷ []) ∙ ap (λ (ps : Pairs). pairs_in words ++ ps) (append-nil (pairs_of w) ∙ column_pairs c p word) ∙ ap (λ (ps : Pairs). ps ++ at_position p (map (place c) (bits 64 word))) was;
    }

pub pushed_none : (before : Pairs) (c p word : ℕ) → word ≡ 0 → PushesWord before before p c word
pushed_none before c p word none = record {
  vertices = map (place c) (bits 64 word);
  lists = word_lists c word;
  grown = sym (append-nil before) ∙ ap (λ (bs : List ℕ). before ++ at_position p (map (place c) bs)) (sym (bits_none 64 word none));
}

-- ---- the least pair

-- Where no first pair stands before one, none does.
pub least_of_all : (words : List Word) (q : ℕ × ℕ) → All IsFilled words → ((w : Word) → Contains words w → ¬ IsBefore (first_of w) q) → IsLeast (pairs_in words) q
least_of_all words q filled least x there before =
    let found = in_flat words x there in
    let w = found.0 in
    let first_one : ¬ IsBefore x (first_of w) = first_least w (All-contains IsFilled words w filled found.1) x found.2 in
    least w found.1 (sooner x (first_of w) q first_one before)

-- One word more was looked at, and is not before the least.
pub least_stays : (words : List Word) (k : ℕ) (d : Word) (q : ℕ × ℕ) → k < length words → ¬ IsBefore (first_of (get_or words k d)) q → ((v : Word) → Contains (take k words) v → ¬ IsBefore (first_of v) q) → (v : Word) → Contains (take (k + 1) words) v → ¬ IsBefore (first_of v) q
least_stays words k d q under not_before least v there =
    elim (Contains-push_cases (take k words) (get_or words k d) v (subst (λ (ws : List Word). Contains ws v) (take_more words k d under) there)) [
      | inl earlier ↦ least v earlier
      | inr same ↦ λ before. not_before (subst (λ (u : Word). IsBefore (first_of u) q) (sym same) before)
    ]

-- It is before the least: then it is the least.
pub least_moves : (words : List Word) (k : ℕ) (d : Word) (q : ℕ × ℕ) → k < length words → IsBefore (first_of (get_or words k d)) q → ((v : Word) → Contains (take k words) v → ¬ IsBefore (first_of v) q) → (v : Word) → Contains (take (k + 1) words) v → ¬ IsBefore (first_of v) (first_of (get_or words k d))
least_moves words k d q under before least v there =
    least_stays words k d (first_of (get_or words k d)) under (before_itself (first_of (get_or words k d)))
    (λ u earlier sooner. least u earlier (before_both (first_of u) (first_of (get_or words k d)) q sooner before)) v there

-- Where one word alone was looked at.
pub least_alone : (words : List Word) (d : Word) → 0 < length words → (v : Word) → Contains (take 1 words) v → ¬ IsBefore (first_of v) (first_of (get_or words 0 d))
least_alone words d some v there = least_stays words 0 d (first_of (get_or words 0 d)) some (before_itself (first_of (get_or words 0 d))) (λ u none. absurd (nothing u none)) v there
  where
    nothing : (u : Word) → Contains (take 0 words) u → ⊥
    nothing u (k, under, is) = omega (arith, under)

-- ---- where a word stood before the last one was taken off

pub front_same : (words init : List Word) (last w : Word) (i : ℕ) → words ≡ init ++ last ∷ [] → i < length init → slice_get words i ≡ Some w → get_or init i w ≡ w
front_same words init last w i whole under there =
    sym (get_or_append_left init (last ∷ []) w i under) ∙ ap (λ (ws : List Word). get_or ws i w) (sym whole) ∙ get_or_from_slice_get words i w w there

pub last_same : (words init : List Word) (last w : Word) (i : ℕ) → words ≡ init ++ last ∷ [] → length init ≤ i → i < length words → slice_get words i ≡ Some w → last ≡ w
last_same words init last w i whole over under there =
    let size : length words ≡ length init + 1 = ap (λ (ws : List Word). length ws) whole ∙ length_push init last in
    let at : i ≡ length init = omega (arith, over, under, size) in
    sym (get_or_push init last w i (sym at)) ∙ ap (λ (ws : List Word). get_or ws i w) (sym whole) ∙ get_or_from_slice_get words i w w there

-- A word that had one pair is gone.
pub word_gone : (words new : List Word) (w w' : Word) (q : ℕ × ℕ) → pairs_of w ≡ q ∷ pairs_of w' → pairs_of w' ≡ [] → IsPermutation (pairs_in words) (pairs_of w ++ pairs_in new) → IsPermutation (pairs_in words) (q ∷ pairs_in new)
word_gone words new w w' q first none moves =
    let alone : pairs_of w ≡ q ∷ [] = first ∙ ap (λ (ps : Pairs). q ∷ ps) none in
    subst (λ (ps : Pairs). IsPermutation (pairs_in words) (ps ++ pairs_in new)) alone moves

-- A word with fewer bits, and some.
pub fewer_filled : (w : Word) (rest : ℕ) → IsFilled w → rest ≢ 0 → rest < w.bits → ((b : ℕ) → bit_at rest b ≡ 1 → bit_at w.bits b ≡ 1) → IsFilled (with_bits w rest)
fewer_filled w rest filled some less only = record {
  some = omega (arith, some);
  small = let small = filled.small in omega (arith, less, small);
  fits = λ b is. filled.fits b (only b is);
}

-- ---- words are written out

pub written_more : (before pairs new : Pairs) (w : Word) (rest rest' bit : ℕ) → bit < 64 → bit_at rest bit ≡ 1 → ((b : ℕ) → b < bit → bit_at rest b ≡ 0) → bit_at rest' bit ≡ 0 → ((b : ℕ) → b ≢ bit → bit_at rest' b ≡ bit_at rest b) → new ≡ pairs ++ (w.base + bit, w.position) ∷ [] → pairs ++ pairs_of (with_bits w rest) ≡ before ++ pairs_of w → new ++ pairs_of (with_bits w rest') ≡ before ++ pairs_of w
written_more before pairs new w rest rest' bit below set_there none gone others pushed so_far =
    ap (λ (ps : Pairs). ps ++ pairs_of (with_bits w rest')) pushed
    ∙ append_assoc pairs ((w.base + bit, w.position) ∷ []) (pairs_of (with_bits w rest'))
    ∙ ap (λ (ps : Pairs). pairs ++ ps) (sym (pairs_first (with_bits w rest) rest' bit below set_there none gone others))
    ∙ so_far

pub written_all : (before pairs : Pairs) (w : Word) (rest : ℕ) → rest ≡ 0 → pairs ++ pairs_of (with_bits w rest) ≡ before ++ pairs_of w → pairs ≡ before ++ pairs_of w
written_all before pairs w rest none so_far = sym (append-nil pairs) ∙ ap (λ (ps : Pairs). pairs ++ ps) (sym (pairs_none (with_bits w rest) none)) ∙ so_far

pub written_word : (before pairs new : Pairs) (words : List Word) (k : ℕ) (d : Word) → k < length words → pairs ≡ before ++ pairs_in (take k words) → new ≡ pairs ++ pairs_of (get_or words k d) → new ≡ before ++ pairs_in (take (k + 1) words)
written_word before pairs new words k d under so_far pushed =
    pushed ∙ ap (λ (ps : Pairs). ps ++ pairs_of (get_or words k d)) so_far ∙ flat_map_more pairs_of before (take k words) (get_or words k d)
    ∙ ap (λ (ws : List Word). before ++ pairs_in ws) (sym (take_more words k d under))
