-- The first direction of a list that is a given one.
use Rattle.rbg_base.proofs.Common.{◌≡◌, ℕ, zero, suc, ◌<◌, List, [], ◌∷◌, Option, Some, None, Contains, length, get_or, if◌then◌else◌, ◌==◌, refl, sym, ◌∙◌, inl, inr, arith, eq-eqb, get_or_default}
use Rattle.std.proofs.lemmas.Bool.{cases_eq, cases_order, ne_eqb, cond-true, cond-false}
use Rattle.rbg_board.proofs.Common.{AreDifferent, choose, first_four, first_six}

-- the two sides of a choice by equal numbers
if_same : {A : Type 0} (d k : ℕ) (x y : A) → d ≡ k → (if d == k then x else y) ≡ x
if_same d k x y same = cond-true (d == k) x y (eq-eqb d k same)

if_other : {A : Type 0} (d k : ℕ) (x y : A) → (d ≡ k → ⊥) → (if d == k then x else y) ≡ y
if_other d k x y other = cond-false (d == k) x y (ne_eqb d k other)

-- the chosen vertex has the place of a direction that is the given one
pub record IsChosen (ks : List ℕ) (vertices : List (Option ℕ)) (d u : ℕ) : Type 0 where
  pub place : ℕ
  pub within : place < length ks
  pub direction : d ≡ get_or ks place 0
  pub vertex : get_or vertices place None ≡ Some u

pub choose_some : (ks : List ℕ) (vertices : List (Option ℕ)) (d u : ℕ) → choose ks vertices d ≡ Some u → IsChosen ks vertices d u
choose_some [] vertices d u some = absurd cc
choose_some (k ∷ ks) [] d u some = absurd cc
choose_some (k ∷ ks) (vertex ∷ vertices) d u some = elim (cases_eq d k) [
  | inl same ↦ record { place = 0; within = omega arith; direction = same; vertex = sym (if_same d k vertex (choose ks vertices d) same) ∙ some }
  | inr other ↦
      let rest = choose_some ks vertices d u (sym (if_other d k vertex (choose ks vertices d) other) ∙ some) in
      record { place = suc rest.place; within = omega (arith, rest.within); direction = rest.direction; vertex = rest.vertex }
]

-- if the directions differ, each chooses the vertex at its own place
pub choose_at : (ks : List ℕ) (vertices : List (Option ℕ)) (place : ℕ) → AreDifferent ks → place < length ks → place < length vertices → choose ks vertices (get_or ks place 0) ≡ get_or vertices place None
unfolding AreDifferent
choose_at [] vertices place different within within' = absurd (omega arith)
choose_at (k ∷ ks) [] place different within within' = absurd (omega arith)
choose_at (k ∷ ks) (vertex ∷ vertices) zero different within within' = if_same k k vertex (choose ks vertices k) refl
choose_at (k ∷ ks) (vertex ∷ vertices) (suc place) different within within' =
    if_other (get_or ks place 0) k vertex (choose ks vertices (get_or ks place 0)) (λ same. different 0 (suc place) (omega arith) within (sym same))
    ∙ choose_at ks vertices place (λ i j before inside. different (suc i) (suc j) (omega arith) (omega arith)) (omega arith) (omega arith)

-- a list of four, and of six, is its first four, and six
pub is_first_four : (xs : List ℕ) → length xs ≡ 4 → xs ≡ first_four xs
is_first_four [] four = absurd (omega arith)
is_first_four (a ∷ []) four = absurd (omega arith)
is_first_four (a ∷ b ∷ []) four = absurd (omega arith)
is_first_four (a ∷ b ∷ c ∷ []) four = absurd (omega arith)
is_first_four (a ∷ b ∷ c ∷ d ∷ []) four = refl
is_first_four (a ∷ b ∷ c ∷ d ∷ e ∷ xs) four = absurd (omega arith)

pub is_first_six : (xs : List ℕ) → length xs ≡ 6 → xs ≡ first_six xs
is_first_six [] six = absurd (omega arith)
is_first_six (a ∷ []) six = absurd (omega arith)
is_first_six (a ∷ b ∷ []) six = absurd (omega arith)
is_first_six (a ∷ b ∷ c ∷ []) six = absurd (omega arith)
is_first_six (a ∷ b ∷ c ∷ d ∷ []) six = absurd (omega arith)
is_first_six (a ∷ b ∷ c ∷ d ∷ e ∷ []) six = absurd (omega arith)
is_first_six (a ∷ b ∷ c ∷ d ∷ e ∷ f ∷ []) six = refl
is_first_six (a ∷ b ∷ c ∷ d ∷ e ∷ f ∷ g ∷ xs) six = absurd (omega arith)

-- in a list of different numbers, equal entries are one entry
pub same_place : (xs : List ℕ) (i j : ℕ) → AreDifferent xs → i < length xs → j < length xs → get_or xs i 0 ≡ get_or xs j 0 → i ≡ j
unfolding AreDifferent
same_place xs i j different in_i in_j same = elim (cases_order i j) [
  | inl e ↦ e
  | inr apart ↦ elim apart [
    | inl before ↦ absurd (different i j before in_j same)
    | inr after ↦ absurd (different j i after in_i (sym same))
  ]
]

-- an entry is an element
pub contains_entry : (xs : List ℕ) (i : ℕ) → i < length xs → Contains xs (get_or xs i 0)
contains_entry xs i within = (i, within, get_or_default xs i (get_or xs i 0) 0 within)
