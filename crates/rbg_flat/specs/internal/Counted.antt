-- How what was met is counted, word by word.
use Rattle.std.specs.Prelude.{◌≡◌, ℕ, List, length}
use Rattle.rbg_flat.specs.internal.Gathering.{Lists, IsGone}
use Rattle.rbg_flat.specs.internal.Sets.{SetsOfVertices, IsMarked}

-- What is forgotten was counted.
pub record Counted (first now : SetsOfVertices) (count : ℕ) : Type 0 where
  pub under : (v p : ℕ) → IsMarked now v p → IsMarked first v p
  pub pairs : List (ℕ × ℕ)
  pub lists : Lists (IsGone first now) pairs
  pub count_is : count ≡ length pairs
