-- The branches of lists of positions.
use Rattle.std.specs.Prelude.{◌≡◌, ℕ, ◌<◌, List, length, slice_index_or, Some, None}
use Rattle.rbg_rules.specs.Meaning.{Expression, shift, HasAction}
use Rattle.rbg_shifts.specs.declared.branches.Branch.{Branch}
use Rattle.rbg_shifts.specs.Leaps.{IsShiftAt}

abbrev pub no_branch : Branch
no_branch = record { position = 0; direction = None; after = 0 }

-- The branch is that of a position: it has the direction of the shift there, if there is one, and the node after it.
pub record IsBranch (rules : Expression) (afters : List ℕ) (p : ℕ) (b : Branch) : Type 0 where
  pub position : b.position ≡ p
  pub after : b.after ≡ slice_index_or afters p 0
  pub stands : (d : ℕ) → b.direction ≡ Some d → HasAction rules p (shift d)
  pub plain : b.direction ≡ None → ¬ IsShiftAt rules p

-- These are the branches of the first positions.
pub record AreBranchesUpTo (rules : Expression) (afters positions : List ℕ) (branches : List Branch) (many : ℕ) : Type 0 where
  pub size : length branches ≡ many
  pub each :
      (i : ℕ) → i < many → IsBranch rules afters (slice_index_or positions i 0) (slice_index_or branches i no_branch)

-- These are the branches of the positions.
abbrev pub AreBranches : Expression → (afters positions : List ℕ) → List Branch → Type 0
AreBranches rules afters positions branches = AreBranchesUpTo rules afters positions branches (length positions)
