-- Where a position is in a word of a star.
use Rattle.std.proofs.Common.{◌≡◌, ℕ, List, ◌∷◌, ◌++◌, sym, subst}
use Rattle.rbg_rules.specs.Meaning.{Expression, Word, Repeats, done, again}
use Rattle.rbg_rules.proofs.CutLemmas.{in_first, in_second, cut_at, not_empty}

-- A word of a star that goes through a position: one word of its part goes through it, and words come after.
pub record Through (x : Expression) (j : ℕ) (v : List ℕ) : Type 0 where
  pub front : List ℕ
  pub rest : List ℕ
  pub later : List ℕ
  pub word : Word x (front ++ j ∷ rest)
  pub words_later : Repeats (Word x) later
  pub is_rest : v ≡ rest ++ later

pub through : (x : Expression) {w : List ℕ} → Repeats (Word x) w → (u : List ℕ) (j : ℕ) (v : List ℕ) → w ≡ u ++ j ∷ v → Through x j v
through x done u j v e = absurd (not_empty u j v (sym e))
through x (again {u = a} {v = b} word more) u j v e = elim (cut_at a b u j v e) [
  | in_first rest is later ↦ record { front = u; rest = rest; later = b; word = subst (Word x) is word; words_later = more; is_rest = later }
  | in_second front is later ↦ through x more front j v later
]
