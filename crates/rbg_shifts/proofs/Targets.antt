-- Targets: what their bits mean, and lists to which they are added.
use Rattle.rbg_base.proofs.Common.{◌≡◌, ◌≢◌, ℕ, ◌+◌, ◌*◌, ◌/◌, ◌%◌, ◌^◌, ◌<◌, ◌≤◌, ◌⊎◌, List, [], ◌∷◌, ◌++◌, length, set, Bool, refl, sym, ap, ◌∙◌, subst, inl, inr, arith, bit_or, bit_at, w64, bit_at-zero, bit_at_set_same, bit_at_set_other}
use Rattle.std.proofs.lemmas.List.{length-append, length-set, get_or-set_same, get_or-set_other, get_or_append_left, get_or_push}
use Rattle.rbg_rules.specs.Meaning.{AbstractGame}
use Rattle.rbg_shifts.proofs.Common.{Target, IsEndOf, no_target, target_at, HasEnd, IsTargetOf, AreSound, IsTargetBy, AreSoundBy, Keeps, AddsTarget, AddsUpTo, AddsAll}
use Rattle.rbg_shifts.proofs.Bits.{either_bit, first_bit, second_bit}
use Rattle.rbg_shifts.proofs.Places.{same_or_not, LastPlace, before, last, last_place}

-- If joining changes nothing, each bit was there.
under_bit : (a b k : ℕ) → bit_or a b ≡ b → bit_at a k ≡ 1 → bit_at b k ≡ 1
under_bit a b k same is = ap (λ (n : ℕ). bit_at n k) (sym same) ∙ first_bit a b k is

zero_not_one : {n : ℕ} → n ≡ 0 → n ≡ 1 → ⊥
zero_not_one e f = omega (arith, e, f)

-- The word of one vertex.
pub unit_set : (k : ℕ) → k < 64 → bit_at (1 * 2 ^ k % 2 ^ 64) k ≡ 1
unit_set k small = elim (either_bit 0 (1 * 2 ^ k % 2 ^ 64) k (bit_at_set_same w64 0 k small)) [
  | inl none ↦ absurd (zero_not_one (bit_at-zero k) none)
  | inr has ↦ has
]

pub unit_only : (k b : ℕ) → k < 64 → bit_at (1 * 2 ^ k % 2 ^ 64) b ≡ 1 → b ≡ k
unit_only k b small has = elim (same_or_not b k) [
  | inl same ↦ same
  | inr differ ↦ absurd (zero_not_one (bit_at_set_other w64 0 k small b differ ∙ bit_at-zero b) (second_bit 0 (1 * 2 ^ k % 2 ^ 64) b has))
]

-- Two numbers with one quotient and one rest are equal.
pub same_vertex : (u v : ℕ) → u / 64 ≡ v / 64 → u % 64 ≡ v % 64 → u ≡ v
same_vertex u v quotient rest = omega (arith, quotient, rest)

-- A target with the word of another one joined.
abbrev pub joined : Target → ℕ → Target
joined t word = record { position = t.position; column = t.column; word = bit_or word t.word }

joined_either : (a t : Target) (p u : ℕ) → a.position ≡ t.position → a.column ≡ t.column → IsEndOf (joined t a.word) p u → IsEndOf a p u ⊎ IsEndOf t p u
joined_either a t p u position column is = elim (either_bit a.word t.word (u % 64) is.set) [
  | inl one ↦ inl (record { position = is.position ∙ sym position; column = is.column ∙ sym column; set = one })
  | inr two ↦ inr (record { position = is.position; column = is.column; set = two })
]

joined_first : (a t : Target) (p u : ℕ) → a.position ≡ t.position → a.column ≡ t.column → IsEndOf a p u → IsEndOf (joined t a.word) p u
joined_first a t p u position column is = record { position = is.position ∙ position; column = is.column ∙ column; set = first_bit a.word t.word (u % 64) is.set }

joined_second : (a t : Target) (p u : ℕ) → IsEndOf t p u → IsEndOf (joined t a.word) p u
joined_second a t p u is = record { position = is.position; column = is.column; set = second_bit a.word t.word (u % 64) is.set }

-- If joining changes nothing, the other word was there.
pub under_target : (a t : Target) (p u : ℕ) → a.position ≡ t.position → a.column ≡ t.column → bit_or a.word t.word ≡ a.word → IsEndOf t p u → IsEndOf a p u
under_target a t p u position column same is = record {
  position = is.position ∙ sym position;
  column = is.column ∙ sym column;
  set = ap (λ (n : ℕ). bit_at n (u % 64)) (sym same) ∙ second_bit a.word t.word (u % 64) is.set;
}

-- Lists that keep their first targets.
pub keeps_same : (place : ℕ) (xs ys : List Target) → ys ≡ xs → Keeps place xs ys
keeps_same place xs ys same = record {
  size = let long = ap length same in omega (arith, long);
  same = λ i below. ap (λ (ts : List Target). target_at ts i) same;
}

pub keeps_none : (place : ℕ) (xs : List Target) → Keeps place xs xs
keeps_none place xs = keeps_same place xs xs refl

pub keeps_more : (place : ℕ) (xs ys zs : List Target) → Keeps place xs ys → Keeps place ys zs → Keeps place xs zs
keeps_more place xs ys zs first second = record {
  size = let one = first.size in let two = second.size in omega (arith, one, two);
  same = λ i below. second.same i below ∙ first.same i below;
}

pub keeps_fewer : (less place : ℕ) (xs ys : List Target) → less ≤ place → Keeps place xs ys → Keeps less xs ys
keeps_fewer less place xs ys fewer keeps = record { size = keeps.size; same = λ i below. keeps.same i (omega (arith, fewer, below)) }

pub keeps_pushed : (place : ℕ) (xs : List Target) (t : Target) → place ≤ length xs → Keeps place xs (xs ++ t ∷ [])
keeps_pushed place xs t inside = record {
  size = let long = length-append xs (t ∷ []) in omega (arith, long);
  same = λ i below. get_or_append_left xs (t ∷ []) no_target i (omega (arith, below, inside));
}

pub keeps_set : (place k : ℕ) (xs : List Target) (t : Target) → place ≤ k → Keeps place xs (set xs k t)
keeps_set place k xs t beyond = record {
  size = let long = length-set xs k t in omega (arith, long);
  same = λ i below. get_or-set_other xs k i t no_target (other i below);
}
  where
    other : (i : ℕ) → i < place → i ≢ k
    other i below e = absurd (omega (arith, below, beyond, e))

-- What is recorded between two places depends on the targets there alone.
pub tells_kept : (place : ℕ) (old new : List Target) (from to : ℕ) → Keeps place old new → to ≤ place → (j u : ℕ) → HasEnd old from to j u → HasEnd new from to j u
tells_kept place old new from to keeps inside j u told = record {
  at = told.at;
  beyond = told.beyond;
  before = told.before;
  is = subst (λ (t : Target). IsEndOf t j u) (sym (keeps.same told.at (let short = told.before in omega (arith, short, inside)))) told.is;
}

pub tells_before : (place : ℕ) (old new : List Target) (from to : ℕ) → Keeps place old new → to ≤ place → (j u : ℕ) → HasEnd new from to j u → HasEnd old from to j u
tells_before place old new from to keeps inside j u told = record {
  at = told.at;
  beyond = told.beyond;
  before = told.before;
  is = subst (λ (t : Target). IsEndOf t j u) (keeps.same told.at (let short = told.before in omega (arith, short, inside))) told.is;
}

pub sound_kept : (Leap : ℕ → ℕ → Type 0) (columns place : ℕ) (old new : List Target) (from to : ℕ) → Keeps place old new → to ≤ place → AreSound Leap columns old from to → AreSound Leap columns new from to
sound_kept Leap columns place old new from to keeps inside are = record {
  each = λ i beyond short. subst (IsTargetOf Leap columns) (sym (keeps.same i (omega (arith, short, inside)))) (are.each i beyond short);
}

pub sound_none : (Leap : ℕ → ℕ → Type 0) (columns : ℕ) (targets : List Target) (from to : ℕ) → to ≤ from → AreSound Leap columns targets from to
sound_none Leap columns targets from to none = record { each = λ i beyond short. absurd (omega (arith, beyond, short, none)) }

-- A target is appended.
pub adds_pushed : (start : ℕ) (old : List Target) (t : Target) → start ≤ length old → AddsTarget start old (old ++ t ∷ []) t
adds_pushed start old t inside = record {
  sound = λ game list may_end v are is. record { each = λ i beyond short. sound_at game list may_end v are is i beyond (last_place (length old) i (omega (arith, short, long))) };
  kept = record {
    tells = λ j u told. record {
      at = told.at;
      beyond = told.beyond;
      before = let short = told.before in omega (arith, short, long);
      is = subst (λ (x : Target). IsEndOf x j u) (sym (item told.at told.before)) told.is;
    };
  };
  has = λ j u is. record {
    at = length old;
    beyond = inside;
    before = omega (arith, long);
    is = subst (λ (x : Target). IsEndOf x j u) (sym (item_last (length old) refl)) is;
  };
}
  where
    long : length (old ++ t ∷ []) ≡ length old + 1
    long = length-append old (t ∷ [])

    item : (i : ℕ) → i < length old → target_at (old ++ t ∷ []) i ≡ target_at old i
    item i below = get_or_append_left old (t ∷ []) no_target i below

    item_last : (i : ℕ) → i ≡ length old → target_at (old ++ t ∷ []) i ≡ t
    item_last i e = get_or_push old t no_target i (sym e)

    sound_at : (game : AbstractGame) (list : List ℕ) (may_end : Bool) (v : ℕ) → AreSoundBy game list may_end v old start (length old) → IsTargetBy game list may_end v t → (i : ℕ) → start ≤ i → LastPlace (length old) i → IsTargetBy game list may_end v (target_at (old ++ t ∷ []) i)
    sound_at game list may_end v are is i beyond (before short) = subst (IsTargetBy game list may_end v) (sym (item i short)) (are.each i beyond short)
    sound_at game list may_end v are is i beyond (last e) = subst (IsTargetBy game list may_end v) (sym (item_last i e)) is

-- A target's word is joined with that of the same position and column.
pub adds_joined : (start k : ℕ) (old : List Target) (t : Target) → start ≤ k → k < length old → (target_at old k).position ≡ t.position → (target_at old k).column ≡ t.column → AddsTarget start old (set old k (joined t (target_at old k).word)) t
adds_joined start k old t from there position column = record {
  sound = λ game list may_end v are is. record { each = λ i beyond short. sound_at game list may_end v are is i beyond (below i short) (same_or_not i k) };
  kept = record {
    tells = λ j u told. record {
      at = told.at;
      beyond = told.beyond;
      before = let short = told.before in omega (arith, short, long);
      is = still told.at j u (same_or_not told.at k) told.is;
    };
  };
  has = λ j u is. record {
    at = k;
    beyond = from;
    before = omega (arith, there, long);
    is = subst (λ (x : Target). IsEndOf x j u) (sym (here k refl)) (joined_second own t j u is);
  };
}
  where
    own : Target
    own = target_at old k

    long : length (set old k (joined t own.word)) ≡ length old
    long = length-set old k (joined t own.word)

    below : (i : ℕ) → i < length (set old k (joined t own.word)) → i < length old
    below i short = omega (arith, short, long)

    here : (i : ℕ) → i ≡ k → target_at (set old k (joined t own.word)) i ≡ joined t own.word
    here i e = ap (target_at (set old k (joined t own.word))) e ∙ get_or-set_same old k (joined t own.word) no_target there

    other : (i : ℕ) → i ≢ k → target_at (set old k (joined t own.word)) i ≡ target_at old i
    other i differ = get_or-set_other old k i (joined t own.word) no_target differ

    still : (i j u : ℕ) → (i ≡ k) ⊎ (i ≢ k) → IsEndOf (target_at old i) j u → IsEndOf (target_at (set old k (joined t own.word)) i) j u
    still i j u (inl e) is = subst (λ (x : Target). IsEndOf x j u) (sym (here i e)) (joined_first own t j u position column (subst (λ (n : ℕ). IsEndOf (target_at old n) j u) e is))
    still i j u (inr differ) is = subst (λ (x : Target). IsEndOf x j u) (sym (other i differ)) is

    sound_at : (game : AbstractGame) (list : List ℕ) (may_end : Bool) (v : ℕ) → AreSoundBy game list may_end v old start (length old) → IsTargetBy game list may_end v t → (i : ℕ) → start ≤ i → i < length old → (i ≡ k) ⊎ (i ≢ k) → IsTargetBy game list may_end v (target_at (set old k (joined t own.word)) i)
    sound_at game list may_end v are is i beyond short (inr differ) = subst (IsTargetBy game list may_end v) (sym (other i differ)) (are.each i beyond short)
    sound_at game list may_end v are is i beyond short (inl e) =
        let was : IsTargetBy game list may_end v own = are.each k from there in
        subst (IsTargetBy game list may_end v) (sym (here i e)) (record {
          only = λ p u has. elim (joined_either own t p u position column has) [
            | inl one ↦ was.only p u one
            | inr two ↦ is.only p u two
          ];
          some = (is.some.0, joined_second own t t.position is.some.0 is.some.1);
          column = is.column;
        })

-- Nothing was added yet, and then one target more.
pub adds_none : (start : ℕ) (ts : List Target) (from to place : ℕ) → place ≤ from → AddsUpTo start ts ts from to place
adds_none start ts from to place none = record {
  keeps = keeps_none start ts;
  sound = λ game list may_end v are others. are;
  kept = record { tells = λ j u told. told };
  has = λ j u told. absurd (let beyond = told.beyond in let short = told.before in omega (arith, beyond, short, none));
}

pub adds_one : (start k : ℕ) (old middle new : List Target) (from to : ℕ) → to ≤ start → from ≤ k → k < to → AddsUpTo start old middle from to k → Keeps start middle new → AddsTarget start middle new (target_at middle k) → AddsUpTo start old new from to (k + 1)
adds_one start k old middle new from to inside starts ends adds keeps one = record {
  keeps = keeps_more start old middle new adds.keeps keeps;
  sound = λ game list may_end v are others.
      one.sound game list may_end v (adds.sound game list may_end v are others)
      (subst (IsTargetBy game list may_end v) (sym same) (others.each k starts ends));
  kept = record { tells = λ j u told. one.kept.tells j u (adds.kept.tells j u told) };
  has = λ j u told. at j u told (last_place k told.at told.before);
}
  where
    same : target_at middle k ≡ target_at old k
    same = adds.keeps.same k (omega (arith, ends, inside))

    at : (j u : ℕ) (told : HasEnd old from (k + 1) j u) → LastPlace k told.at → HasEnd new start (length new) j u
    at j u told (before short) = one.kept.tells j u (adds.has j u (record { at = told.at; beyond = told.beyond; before = short; is = told.is }))
    at j u told (last here) = one.has j u (subst (λ (t : Target). IsEndOf t j u) (ap (target_at old) here ∙ sym same) told.is)

-- All that is after the end was added too.
pub adds_all : (start : ℕ) (old new : List Target) (from to place : ℕ) → to ≤ place → AddsUpTo start old new from to place → AddsAll start old new from to
adds_all start old new from to place far adds = record {
  keeps = adds.keeps;
  sound = adds.sound;
  kept = adds.kept;
  has = λ j u told. adds.has j u (record { at = told.at; beyond = told.beyond; before = let short = told.before in omega (arith, short, far); is = told.is });
}
