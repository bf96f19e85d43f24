-- Where words begin, compared with the positions that are read off the expression.
use Rattle.std.proofs.Common.{◌≡◌, ℕ, List, [], ◌∷◌, ◌++◌, refl, sym, ap, subst, inl, inr, ◌⊎◌, Bool, true, false, ◌&&◌, ◌||◌, if◌then◌else◌}
use Rattle.std.proofs.lemmas.List.{append-nil}
use Rattle.rbg_rules.specs.Meaning.{Expression, act, skip, sequence, fail, choice, star, positions_of, HasNoEmptySum, Word, Repeats, done, again}
use Rattle.rbg_rules.proofs.PositionLemmas.{Among, Among_left, Among_right, Among_cases}
use Rattle.rbg_rules.proofs.StateLemmas.{word_law}
use Rattle.rbg_auto.specs.internal.Orders.{Ascends}
use Rattle.rbg_auto.specs.internal.Firsts.{may_be_empty, past, firsts}
use Rattle.rbg_auto.proofs.OrderLemmas.{Ascends_left, Ascends_right, Ascends_across, Ascends_append}

abbrev pub Begins : Expression → ℕ → Type 0
Begins x j = (z : List ℕ) × Word x (j ∷ z)

pub both : (a b : Bool) → a ≡ true → b ≡ true → (a && b) ≡ true
both a b e f = cc (e, f)

pub left_of : (a b : Bool) → (a && b) ≡ true → a ≡ true
left_of true b e = refl
left_of false b e = e

pub right_of : (a b : Bool) → (a && b) ≡ true → b ≡ true
right_of true b e = e
right_of false b e = absurd (cc e)

either : (a b : Bool) → (a || b) ≡ true → (a ≡ true) ⊎ (b ≡ true)
either true b e = inl refl
either false b e = inr e

or_left : (a b : Bool) → a ≡ true → (a || b) ≡ true
or_left true b e = refl
or_left false b e = absurd (cc e)

or_right : (a b : Bool) → b ≡ true → (a || b) ≡ true
or_right true b e = refl
or_right false b e = e

nothing_left : (u v : List ℕ) → [] ≡ u ++ v → (u ≡ []) × (v ≡ [])
nothing_left [] v e = (refl, sym e)
nothing_left (a ∷ u) v e = absurd (cc e)

-- The empty list is a word exactly if the expression may be empty.
pub empty_word : (x : Expression) → may_be_empty x ≡ true → Word x []
empty_word (act p a) e = absurd (cc e)
empty_word skip e = refl
empty_word (sequence x y) e = ([], [], empty_word x (left_of (may_be_empty x) (may_be_empty y) e), empty_word y (right_of (may_be_empty x) (may_be_empty y) e), refl)
empty_word fail e = absurd (cc e)
empty_word (choice x y) e = elim (either (may_be_empty x) (may_be_empty y) e) [ inl h ↦ inl (empty_word x h) | inr h ↦ inr (empty_word y h) ]
empty_word (star x) e = done

pub may_be_empty_by : (x : Expression) → Word x [] → may_be_empty x ≡ true
may_be_empty_by (act p a) word = absurd (cc word)
may_be_empty_by skip word = refl
may_be_empty_by (sequence x y) (u, v, in_x, in_y, e) =
    let (none, none') = nothing_left u v e in
    both (may_be_empty x) (may_be_empty y) (may_be_empty_by x (subst (Word x) none in_x)) (may_be_empty_by y (subst (Word y) none' in_y))
may_be_empty_by fail word = absurd word
may_be_empty_by (choice x y) (inl word) = or_left (may_be_empty x) (may_be_empty y) (may_be_empty_by x word)
may_be_empty_by (choice x y) (inr word) = or_right (may_be_empty x) (may_be_empty y) (may_be_empty_by y word)
may_be_empty_by (star x) word = refl

-- A member of what is past an expression.
pub past_member : (x : Expression) (k : List ℕ) (j : ℕ) → Among j (past x k) → (may_be_empty x ≡ true) × Among j k
past_member x k j h = by_value (may_be_empty x) h
  where
    by_value : (b : Bool) → Among j (if b then k else []) → (b ≡ true) × Among j k
    by_value true g = (refl, g)
    by_value false g = absurd g

pub member_past : (x : Expression) (k : List ℕ) (j : ℕ) → may_be_empty x ≡ true → Among j k → Among j (past x k)
member_past x k j e h = subst (λ (b : Bool). Among j (if b then k else [])) (sym e) h

-- A non-empty word of a star begins with a word of its part.
pub star_begins : (x : Expression) {w : List ℕ} → Repeats (Word x) w → (j : ℕ) (z : List ℕ) → w ≡ j ∷ z → Begins x j
star_begins x done j z e = absurd (cc e)
star_begins x (again {u} {v} word more) j z e = by_first u word e (star_begins x more j z)
  where
    by_first : (a : List ℕ) → Word x a → a ++ v ≡ j ∷ z → (v ≡ j ∷ z → Begins x j) → Begins x j
    by_first [] in_x same later = later same
    by_first (i ∷ a) in_x same later = let here : i ≡ j = cc same in (a, subst (λ (n : ℕ). Word x (n ∷ a)) here in_x)

pub begins_among : (x : Expression) (j : ℕ) → Begins x j → Among j (firsts x)
begins_among (act p a) j (z, word) = inl (cc word)
begins_among skip j (z, word) = absurd (cc word)
begins_among (sequence x y) j (z, (u, v, in_x, in_y, e)) = by_first u in_x e (begins_among x j) (begins_among y j)
  where
    by_first : (a : List ℕ) → Word x a → j ∷ z ≡ a ++ v → (Begins x j → Among j (firsts x)) → (Begins y j → Among j (firsts y)) → Among j (firsts x ++ past x (firsts y))
    by_first [] word same in_one in_other = Among_right j (firsts x) (past x (firsts y)) (member_past x (firsts y) j (may_be_empty_by x word) (in_other (z, subst (Word y) (sym same) in_y)))
    by_first (i ∷ a) word same in_one in_other = let here : i ≡ j = cc same in Among_left j (firsts x) (past x (firsts y)) (in_one (a, subst (λ (n : ℕ). Word x (n ∷ a)) here word))
begins_among fail j (z, word) = absurd word
begins_among (choice x y) j (z, inl word) = Among_left j (firsts x) (firsts y) (begins_among x j (z, word))
begins_among (choice x y) j (z, inr word) = Among_right j (firsts x) (firsts y) (begins_among y j (z, word))
begins_among (star x) j (z, word) = begins_among x j (star_begins x word j z refl)

pub among_begins : (x : Expression) → HasNoEmptySum x → (j : ℕ) → Among j (firsts x) → Begins x j
among_begins (act p a) none j (inl e) = ([], ap (λ (n : ℕ). n ∷ []) e)
among_begins (act p a) none j (inr h) = absurd h
among_begins skip none j h = absurd h
among_begins (sequence x y) none j h = elim (Among_cases j (firsts x) (past x (firsts y)) h) [
  | inl left ↦
      let (z, word) = among_begins x none.0 j left in
      let (w, other) = word_law y none.1 in
      (z ++ w, (j ∷ z, w, word, other, refl))
  | inr right ↦
      let (empty, there) = past_member x (firsts y) j right in
      let (z, word) = among_begins y none.1 j there in
      (z, ([], j ∷ z, empty_word x empty, word, refl))
]
among_begins fail none j h = absurd h
among_begins (choice x y) none j h = elim (Among_cases j (firsts x) (firsts y) h) [
  | inl left ↦ elim none.0 [
    | inl failed ↦ absurd (subst (λ (e : Expression). Among j (firsts e)) failed left)
    | inr kept ↦ let (z, word) = among_begins x kept j left in (z, inl word)
  ]
  | inr right ↦ let (z, word) = among_begins y none.1 j right in (z, inr word)
]
among_begins (star x) none j h =
    let (z, word) = among_begins x none j h in
    (z, subst (Repeats (Word x)) (append-nil (j ∷ z)) (again word done))

-- First positions are positions, in the same order.
pub firsts_among : (x : Expression) (j : ℕ) → Among j (firsts x) → Among j (positions_of x)
firsts_among (act p a) j (inl e) = inl e
firsts_among (act p a) j (inr h) = absurd h
firsts_among skip j h = h
firsts_among (sequence x y) j h = elim (Among_cases j (firsts x) (past x (firsts y)) h) [
  | inl left ↦ Among_left j (positions_of x) (positions_of y) (firsts_among x j left)
  | inr right ↦ Among_right j (positions_of x) (positions_of y) (firsts_among y j (past_member x (firsts y) j right).1)
]
firsts_among fail j h = h
firsts_among (choice x y) j h = elim (Among_cases j (firsts x) (firsts y) h) [
  | inl left ↦ Among_left j (positions_of x) (positions_of y) (firsts_among x j left)
  | inr right ↦ Among_right j (positions_of x) (positions_of y) (firsts_among y j right)
]
firsts_among (star x) j h = firsts_among x j h

pub Ascends-past : (x : Expression) (k : List ℕ) → Ascends k → Ascends (past x k)
Ascends-past x k order = by_value (may_be_empty x)
  where
    by_value : (b : Bool) → Ascends (if b then k else [])
    by_value true = order
    by_value false = tt

pub Ascends-firsts : (x : Expression) → Ascends (positions_of x) → Ascends (firsts x)
Ascends-firsts (act p a) order = ((λ y h. absurd h), tt)
Ascends-firsts skip order = tt
Ascends-firsts (sequence x y) order =
    Ascends_append (firsts x) (past x (firsts y))
    (Ascends-firsts x (Ascends_left (positions_of x) (positions_of y) order))
    (Ascends-past x (firsts y) (Ascends-firsts y (Ascends_right (positions_of x) (positions_of y) order)))
    (λ a b left right. Ascends_across (positions_of x) (positions_of y) order a b (firsts_among x a left) (firsts_among y b (past_member x (firsts y) b right).1))
Ascends-firsts fail order = tt
Ascends-firsts (choice x y) order =
    Ascends_append (firsts x) (firsts y)
    (Ascends-firsts x (Ascends_left (positions_of x) (positions_of y) order))
    (Ascends-firsts y (Ascends_right (positions_of x) (positions_of y) order))
    (λ a b left right. Ascends_across (positions_of x) (positions_of y) order a b (firsts_among x a left) (firsts_among y b right))
Ascends-firsts (star x) order = Ascends-firsts x order
