-- Pairs at positions that are no shifts.
use Rattle.std.specs.Prelude.{◌≡◌, ◌≢◌, ◌↔◌, ℕ, ◌≤◌, List, length, AllPairs, Contains, Bool, true, false}
use Rattle.rbg_rules.specs.Meaning.{Expression}
use Rattle.rbg_shifts.specs.Leaps.{IsShiftAt}

-- So many of the pairs are at positions that are no shifts.
pub record HasPlain (rules : Expression) (pairs : List (ℕ × ℕ)) (many : ℕ) : Type 0 where
  pub plain : List (ℕ × ℕ)
  pub all : (v p : ℕ) → Contains plain (v, p) ↔ (Contains pairs (v, p) × ¬ IsShiftAt rules p)
  pub different : AllPairs (λ a b. a ≢ b) plain
  pub count : length plain ≡ many
  pub few : many ≤ length pairs

-- So many of the pairs count: each one, or those alone that are no shifts.
abbrev pub CountsPlain : (shifts : Bool) → Expression → List (ℕ × ℕ) → ℕ → Type 0
CountsPlain true rules pairs many = length pairs ≡ many
CountsPlain false rules pairs many = HasPlain rules pairs many
