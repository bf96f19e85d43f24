-- What was looked at stays so, and what else is looked at.
use Rattle.rbg_base.proofs.Common.{◌≡◌, ℕ, ◌/◌, ◌%◌, ◌⊎◌, inl, inr, arith, bit_at, ℕ_discrete}
use Rattle.rbg_flat.specs.internal.Sets.{SetsOfVertices, IsMarked, IsOpen, IsInWord, Meets, ClosesWord, IsDone, KeepsDone}
use Rattle.rbg_flat.proofs.Trying.{marked_then, marked_before}

pub meets_done : (old new : SetsOfVertices) (In : (v p : ℕ) → Type 0) (Opens : (v p : ℕ) → Type 0) → Meets old new In Opens → KeepsDone old new
meets_done old new In Opens meets v p done = record { marked = meets.kept v p done.marked; closed = λ is. by_case (meets.no_other v p is) }
  where
    by_case : IsOpen old v p ⊎ (In v p × Opens v p × (¬ IsMarked old v p)) → ⊥
    by_case (inl was) = done.closed was
    by_case (inr (_, _, fresh)) = fresh done.marked

pub closes_done : (old new : SetsOfVertices) (q c word : ℕ) → ClosesWord old new q c word → KeepsDone old new
closes_done old new q c word closing v p done = record { marked = marked_then old new q c word v p closing done.marked; closed = λ is. done.closed (closing.only v p is) }

-- Where something was met, no other of what opens was looked at.
pub meets_quiet : (old new : SetsOfVertices) (In : (v p : ℕ) → Type 0) (Opens : (v p : ℕ) → Type 0) → Meets old new In Opens → (v p : ℕ) → Opens v p → IsDone new v p → IsDone old v p
meets_quiet old new In Opens meets v p opens done = record { marked = by_case (meets.only v p done.marked); closed = λ was. done.closed (meets.still v p was) }
  where
    by_case : IsMarked old v p ⊎ (In v p × (Opens v p → IsOpen new v p)) → IsMarked old v p
    by_case (inl was) = was
    by_case (inr (_, is)) = absurd (done.closed (is opens))

-- Where nothing was marked before, nothing that opens was looked at.
pub nothing_done : (old new : SetsOfVertices) (In : (v p : ℕ) → Type 0) (Opens : (v p : ℕ) → Type 0) → ((v p : ℕ) → ¬ IsMarked old v p) → Meets old new In Opens → (v p : ℕ) → Opens v p → ¬ IsDone new v p
nothing_done old new In Opens none meets v p opens done = none v p (meets_quiet old new In Opens meets v p opens done).marked

-- Where a word was closed, nothing else was looked at.
pub closes_quiet : (old new : SetsOfVertices) (q c word : ℕ) → ClosesWord old new q c word → (v p : ℕ) → ¬ IsInWord q c word v p → IsDone new v p → IsDone old v p
closes_quiet old new q c word closing v p other done = record { marked = marked_before old new q c word v p closing done.marked; closed = λ was. by_case (closing.still v p was) }
  where
    by_case : IsOpen new v p ⊎ IsInWord q c word v p → ⊥
    by_case (inl still) = done.closed still
    by_case (inr there) = other there

-- What is marked in a word that was closed was looked at.
pub closed_in : (old new : SetsOfVertices) (q c word : ℕ) → ClosesWord old new q c word → (v : ℕ) → IsInWord q c word v q → IsMarked old v q → IsDone new v q
closed_in old new q c word closing v there marked = record { marked = marked_then old new q c word v q closing marked; closed = closing.gone v q there }

-- A word with one bit is that of one vertex.
module _ (q vertex word : ℕ) (only : (b : ℕ) → bit_at word b ≡ 1 → b ≡ vertex % 64) where
  this_one : (v p : ℕ) → IsInWord q (vertex / 64) word v p → (v ≡ vertex) × (p ≡ q)
  this_one v p there =
      let bits = only (v % 64) there.set in
      let columns = there.column in
      (omega (arith, bits, columns), there.position)

  pub this_or_not : (v p : ℕ) → ((v ≡ vertex) × (p ≡ q)) ⊎ (¬ IsInWord q (vertex / 64) word v p)
  this_or_not v p = elim (ℕ_discrete v vertex) [
    | no other ↦ inr (λ there. other (this_one v p there).0)
    | yes same ↦ elim (ℕ_discrete p q) [
      | no other ↦ inr (λ there. other (this_one v p there).1)
      | yes at ↦ inl (same, at)
    ]
  ]
