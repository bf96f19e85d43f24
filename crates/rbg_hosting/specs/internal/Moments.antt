-- The last moment of one match, and the first of several.
use Rattle.std.specs.Prelude.{◌≡◌, ◌≤◌, ◌⊎◌, ◌-◌, ℕ, List, Option, Some, None}
use Rattle.rbg_hall.specs.Due.{IsFirstDue}
use Rattle.rbg_hall.specs.Tables.{TableState}
use Rattle.rbg_hosting.specs.Moments.{IsInPlay}

-- This is the last moment of the match of this number, if it is in play.
abbrev pub IsLastOrNone : List TableState → (number : ℕ) → Option ℕ → Type 0
IsLastOrNone tables number None = (moment : ℕ) → ¬ IsInPlay tables number moment
IsLastOrNone tables number (Some last) = IsInPlay tables number last

-- The match of this number stands at no earlier moment; it isn't in play if there is no moment.
abbrev pub IsNotBefore : List TableState → (first : Option ℕ) → (number : ℕ) → Type 0
IsNotBefore tables None number = (moment : ℕ) → ¬ IsInPlay tables number moment
IsNotBefore tables (Some first) number = (moment : ℕ) → IsInPlay tables number moment → first ≤ moment

-- This is the last moment of one of the first matches, if it is one at all.
abbrev pub IsOfOne : List TableState → (matches : ℕ) → (first : Option ℕ) → Type 0
IsOfOne tables matches None = Unit {0}
IsOfOne tables matches (Some first) = (number : ℕ) × (number ≤ matches) × IsInPlay tables number first

-- The first of the last moments of the first matches, as far as they are in play.
pub record IsFirst (tables : List TableState) (matches : ℕ) (first : Option ℕ) : Type 0 where
  pub of_one : IsOfOne tables matches first
  pub not_before : (number : ℕ) → number ≤ matches → IsNotBefore tables first number

-- The first moment is the second one or a later one. No moment is later than any.
abbrev pub IsNotEarlier : (one earlier : Option ℕ) → Type 0
IsNotEarlier None earlier = Unit {0}
IsNotEarlier (Some one) None = ⊥
IsNotEarlier (Some one) (Some earlier) = earlier ≤ one

-- This is one of the two moments, and neither of them is earlier.
pub record IsEarlierOf (one other earlier : Option ℕ) : Type 0 where
  pub is : (earlier ≡ one) ⊎ (earlier ≡ other)
  pub before_one : IsNotEarlier one earlier
  pub before_other : IsNotEarlier other earlier

-- When the time of the first mover is over, by a clock whose moments are earlier by so much.
abbrev pub IsDueSince : (since : ℕ) → List TableState → (due : Option ℕ) → Type 0
IsDueSince since tables None = IsFirstDue tables None
IsDueSince since tables (Some due) = (first : ℕ) × IsFirstDue tables (Some first) × (due ≡ first - since)
