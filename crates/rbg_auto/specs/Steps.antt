-- Which positions come next in the words of the rules.
use Rattle.std.specs.Prelude.{ℕ, ◌⊎◌, List, [], ◌∷◌, Bool, IsTrue, Contains, ◌↔◌}
use Rattle.std.specs.List.Sorted.{IsStrictlyIncreasing}
use Rattle.rbg_rules.specs.Meaning.{Expression, shift, on, off, switch, HasAction, IsPatternAt, Level, outermost, inside, Start, beginning, after, Follows, Ends}
use Rattle.rbg_auto.specs.declared.steps.Expr.{Expr}
use Rattle.rbg_auto.specs.declared.steps.Expr.TheVariants.{Rules, Inside}
use Rattle.rbg_auto.specs.declared.steps.Glance.{Glance}
use Rattle.rbg_auto.specs.declared.steps.Glance.TheVariants.{Unknown, Shift, On, OnEither, Modifies, Pattern}

-- The level of an expression that is asked for.
abbrev pub level_of : Expr → Level
level_of Rules = outermost
level_of (Inside p) = inside p

-- The list holds, in increasing order, the positions that follow there: at the beginning of a level those with which
-- its words begin, and after position i those that come directly after i in a word of the level to which i belongs.
pub record AreAllThatFollow (rules : Expression) (from : Start) (positions : List ℕ) : Type 0 where
  pub order : IsStrictlyIncreasing positions
  pub exact : (j : ℕ) → Contains positions j ↔ Follows rules from (j ∷ [])

-- The positions with which words of the level begin.
abbrev pub AreFirst : Expression → Level → List ℕ → Type 0
AreFirst rules level positions = AreAllThatFollow rules (beginning level) positions

-- The positions that come directly after position i.
abbrev pub AreNext : Expression → ℕ → List ℕ → Type 0
AreNext rules i positions = AreAllThatFollow rules (after i) positions

-- The answers are the steps of the rules, for each place and each position.
pub record AreStepsOf (rules : Expression) (first : Level → List ℕ) (next : ℕ → List ℕ) (may_end : ℕ → Bool) (may_be_empty : Level → Bool) : Type 0 where
  pub first_of : (level : Level) → AreFirst rules level (first level)
  pub next_of : (i : ℕ) → AreNext rules i (next i)
  pub ends : (i : ℕ) → IsTrue (may_end i) ↔ Ends rules (after i) []
  pub empty : (level : Level) → IsTrue (may_be_empty level) ↔ Ends rules (beginning level) []

-- The glance of the action at position p is right.
abbrev pub IsGlance : Expression → ℕ → Glance → Type 0
IsGlance rules p Unknown = Unit {0}
IsGlance rules p (Shift d) = HasAction rules p (shift d)
IsGlance rules p (On x) = HasAction rules p (on (x ∷ []))
IsGlance rules p (OnEither x y) = HasAction rules p (on (x ∷ y ∷ []))
IsGlance rules p Pattern = IsPatternAt rules p
IsGlance rules p Modifies = ((x : ℕ) × HasAction rules p (off x)) ⊎ ((n : ℕ) × HasAction rules p (switch n))
