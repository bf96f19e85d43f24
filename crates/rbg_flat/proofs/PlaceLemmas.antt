-- What stands at a place of sets.
use Rattle.rbg_base.proofs.Common.{◌≡◌, ◌≢◌, ℕ, zero, suc, ◌+◌, ◌*◌, ◌/◌, ◌%◌, ◌<◌, List, length, get_or, sym, ap, subst, ◌∙◌, slice_set, arith, bit_at, bit_at-zero, ℕ_discrete}
use Rattle.std.proofs.Math.Nat.{mul_comm, div-add-mod, div-lt_iff_lt-mul}
use Rattle.std.proofs.lemmas.List.{length-set, get_or-set_same, get_or-set_other}
use Rattle.rbg_flat.proofs.Common.{AreSetsByPlace, ForgetsPlace, SetsOfVertices, HasBitAt}
use Rattle.rbg_flat.proofs.WordLemmas.{bit_there}

-- The word at a place is cleared.
module _ (columns : ℕ) (words : List ℕ) (place : ℕ) (within : place < length words) where
  pub gone_there : (v p : ℕ) → p * columns + v / 64 ≡ place → ¬ HasBitAt columns (slice_set words place 0) v p
  gone_there v p same has =
      let none : bit_at (get_or (slice_set words place 0) (p * columns + v / 64) 0) (v % 64) ≡ 0 = ap (λ (k : ℕ). bit_at (get_or (slice_set words place 0) k 0) (v % 64)) same ∙ ap (λ (n : ℕ). bit_at n (v % 64)) (get_or-set_same words place 0 0 within) ∙ bit_at-zero (v % 64) in
      let set = has.set in
      omega (arith, none, set)

  pub was_elsewhere : (v p : ℕ) → HasBitAt columns (slice_set words place 0) v p → HasBitAt columns words v p × (¬ (p * columns + v / 64 ≡ place))
  was_elsewhere v p has = elim (ℕ_discrete (p * columns + v / 64) place) [
    | yes same ↦ absurd (gone_there v p same has)
    | no other ↦ (record { column = has.column; set = sym (ap (λ (k : ℕ). bit_at k (v % 64)) (get_or-set_other words place (p * columns + v / 64) 0 0 other)) ∙ has.set }, other)
  ]

  pub still_elsewhere : (v p : ℕ) → ¬ (p * columns + v / 64 ≡ place) → HasBitAt columns words v p → HasBitAt columns (slice_set words place 0) v p
  still_elsewhere v p other has = record { column = has.column; set = ap (λ (k : ℕ). bit_at k (v % 64)) (get_or-set_other words place (p * columns + v / 64) 0 0 other) ∙ has.set }

-- A word that has a bit is not 0.
pub marked_some : (columns : ℕ) (words : List ℕ) (v p : ℕ) → HasBitAt columns words v p → get_or words (p * columns + v / 64) 0 ≢ 0
marked_some columns words v p has none =
    let clear : bit_at (get_or words (p * columns + v / 64) 0) (v % 64) ≡ 0 = ap (λ (n : ℕ). bit_at n (v % 64)) none ∙ bit_at-zero (v % 64) in
    let set = has.set in
    omega (arith, clear, set)

-- Where all words are 0, no vertex has a bit.
pub none_there : (columns : ℕ) (words : List ℕ) → ((p : ℕ) → get_or words p 0 ≡ 0) → (v p : ℕ) → ¬ HasBitAt columns words v p
none_there columns words clear v p has = marked_some columns words v p has (clear (p * columns + v / 64))

-- The word at a place of sets is cleared, which are seen as `old`, and are now.
module _ {old now : SetsOfVertices} (view : old ≡ now) (place : ℕ) (there : place < length now.marks) where
  abbrev unmarked : List ℕ
  unmarked = slice_set old.marks place 0

  -- What was met there is forgotten, where nothing is open.
  pub sets_forgotten : ((v p : ℕ) → ¬ HasBitAt now.columns now.pending v p) → (touched' : List ℕ) → AreSetsByPlace old → AreSetsByPlace (record old { marks = unmarked; touched = touched' })
  sets_forgotten none touched' are = record {
    marks = length-set old.marks place 0 ∙ are.marks;
    pendings = are.pendings;
    small = are.small;
    under = λ v p has. absurd (none v p (subst (λ (s : SetsOfVertices). HasBitAt s.columns s.pending v p) view has));
  }

  pub forgets : (touched' : List ℕ) → ForgetsPlace now (record old { marks = unmarked; touched = touched' }) place
  forgets touched' =
      let in_marks : place < length old.marks = subst (λ (s : SetsOfVertices). place < length s.marks) (sym view) there in
      subst (λ (s : SetsOfVertices). ForgetsPlace s (record old { marks = unmarked; touched = touched' }) place) view (record {
        gone = gone_there old.columns old.marks place in_marks;
        only = λ v p has. (was_elsewhere old.columns old.marks place in_marks v p has).0;
        still = still_elsewhere old.columns old.marks place in_marks;
      })

-- The bits of a word are open, and marked.
pub taken_there : {old now : SetsOfVertices} → old ≡ now → (place q c : ℕ) → place ≡ q * now.columns + c → c < now.columns → AreSetsByPlace old → (word b : ℕ) → b < 64 → bit_at word b ≡ 1 → word ≡ get_or old.pending place 0 → HasBitAt now.columns now.pending (c * 64 + b) q × HasBitAt now.columns now.marks (c * 64 + b) q
taken_there {old = old} view place q c at column are word b small set read =
    let is = subst (λ (s : SetsOfVertices). place ≡ q * s.columns + c) (sym view) at in
    let below = subst (λ (s : SetsOfVertices). c < s.columns) (sym view) column in
    let waits : HasBitAt old.columns old.pending (c * 64 + b) q = bit_there old.columns old.pending q c word b below (read ∙ ap (λ (k : ℕ). get_or old.pending k 0) is) small set in
    subst (λ (s : SetsOfVertices). HasBitAt s.columns s.pending (c * 64 + b) q × HasBitAt s.columns s.marks (c * 64 + b) q) view (waits, are.under (c * 64 + b) q waits)

-- A place is that of its position and column.
pub of_parts : (columns place : ℕ) → place ≡ place / columns * columns + place % columns
of_parts columns place = sym (div-add-mod place columns) ∙ ap (λ (k : ℕ). k + place % columns) (mul_comm columns (place / columns))

pub parts_of : (columns place c : ℕ) → c ≡ place % columns → place ≡ place / columns * columns + c
parts_of columns place c is = of_parts columns place ∙ ap (λ (k : ℕ). place / columns * columns + k) (sym is)

-- The same of the word at a place in its own column.
pub first_there : {old now : SetsOfVertices} → old ≡ now → (place c : ℕ) → c ≡ place % now.columns → c < now.columns → AreSetsByPlace old → (word b : ℕ) → b < 64 → bit_at word b ≡ 1 → word ≡ get_or old.pending place 0 → HasBitAt now.columns now.pending (c * 64 + b) (place / now.columns) × HasBitAt now.columns now.marks (c * 64 + b) (place / now.columns)
first_there {now = now} view place c is below = taken_there view place (place / now.columns) c (parts_of now.columns place c is) below

pub some_columns : (size columns place : ℕ) → place < size * columns → 0 < columns
some_columns size zero place below = let none : size * 0 ≡ 0 = omega arith in absurd (omega (arith, below, none))
some_columns size (suc n) place below = omega arith

pub position_below : (size columns place : ℕ) → place < size * columns → place / columns < size
position_below size columns place below = (div-lt_iff_lt-mul (some_columns size columns place below)).1 below

pub bit_column : (c b : ℕ) → b < 64 → (c * 64 + b) / 64 ≡ c
bit_column c b small = omega (arith, small)
