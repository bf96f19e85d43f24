-- What holds of each number below one, and of that one.
use Rattle.rbg_base.proofs.Common.{ℕ, ◌+◌, ◌<◌, subst, sym, arith, ℕ_discrete}

pub one_more_fits : (P : ℕ → Type 0) (i : ℕ) → ((v : ℕ) → v < i → P v) → P i → (v : ℕ) → v < i + 1 → P v
one_more_fits P i each here v below = elim (ℕ_discrete v i) [
  | yes same ↦ subst P (sym same) here
  | no other ↦ each v (omega (arith, below, other))
]
