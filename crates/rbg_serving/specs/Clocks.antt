-- What a clock has told that goes on from a moment.
use Rattle.std.specs.Prelude.{◌≡◌, ◌+◌, ◌^◌, ◌-◌, ℕ, List, map, min}

-- the moment that is later by so much, at most the greatest number of 64 bits
abbrev pub later_by : (since at : ℕ) → ℕ
later_by since at = min (at + since) (2 ^ 64 - 1)

-- It has told what another clock has told, each moment later by so much.
pub record TellsLater {C : Type 0} (told : C → List ℕ → Type 0) (clock : C) (since : ℕ) (so_far : List ℕ) : Type 0 where
  pub inner : List ℕ
  pub tells : told clock inner
  pub are : so_far ≡ map (later_by since) inner
