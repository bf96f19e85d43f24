-- How the flat parts of a game are led on, and what they need to know of its positions.
use Rattle.std.specs.Prelude.{◌≡◌, ◌+◌, ◌⊎◌, ℕ, List, [], ◌∷◌, length, slice_get, Option, None, Some, IfSome, Bool, true, false, IsTrue}
use Rattle.rbg_base.specs.declared.relation.Relation.{Relation}
use Rattle.rbg_rules.specs.Meaning.{Expression, AbstractArithmetic, on, off, comparison, switch, HasAction, IsModifierAt, IsPatternAt, positions_of, AbstractGame, after, Follows}
use Rattle.rbg_shifts.specs.Leaps.{IsShiftAt}
use Rattle.rbg_shifts.specs.Made.{AreLeapsOf}
use Rattle.rbg_shifts.specs.declared.asking.Leaps.{Leaps}
use Rattle.rbg_flat.specs.Followers.{AreStepsOf}
use Rattle.rbg_flat.specs.Ways.{Way, leaping, stepping}
use Rattle.rbg_flat.specs.Onward.{IsOnward}
use Rattle.rbg_flat.specs.declared.onward.Onward.{Onward}
use Rattle.rbg_flat.specs.declared.paths.Facts.{Facts}
use Rattle.rbg_flat.specs.declared.paths.Kind.{Kind}
use Rattle.rbg_flat.specs.declared.paths.Kind.TheVariants.{OnEither, Modifier, Pattern, On, Comparison, Plain}
use Rattle.rbg_flat.specs.declared.paths.Paths.{Paths}

-- No shift comes next after the position.
pub record IsStill (rules : Expression) (p : ℕ) : Type 0 where
  pub no_shift : (q : ℕ) → Follows rules (after p) (q ∷ []) → ¬ IsShiftAt rules q

-- Where position p holds one is led on from the same vertex: by leaps if no shift comes next, and step by step if it is no
-- shift.
abbrev pub Stays : Way → Expression → ℕ → Type 0
Stays leaping rules p = IsStill rules p
Stays stepping rules p = ¬ IsShiftAt rules p

-- A comparison stands at the position.
pub record IsComparisonAt (rules : Expression) (p : ℕ) : Type 0 where
  pub left : AbstractArithmetic
  pub relation : Relation
  pub right : AbstractArithmetic
  pub stands : HasAction rules p (comparison left relation right)

-- A modifier that is valid everywhere stands at the position.
pub record IsSureAt (rules : Expression) (p : ℕ) : Type 0 where
  pub stands : ((x : ℕ) × HasAction rules p (off x)) ⊎ ((n : ℕ) × HasAction rules p (switch n))

-- The kind of the action at the position. That an on of the kind `OnEither` has two pieces is said with its facts.
abbrev pub IsKind : Expression → ℕ → Kind → Type 0
IsKind rules p OnEither = (wanted : List ℕ) × HasAction rules p (on wanted)
IsKind rules p Modifier = IsModifierAt rules p
IsKind rules p Pattern = IsPatternAt rules p
IsKind rules p On = (wanted : List ℕ) × HasAction rules p (on wanted)
IsKind rules p Comparison = IsComparisonAt rules p
IsKind rules p Plain =
    (¬ IsModifierAt rules p) × (¬ IsPatternAt rules p) × ((wanted : List ℕ) → ¬ HasAction rules p (on wanted)) × (¬ IsComparisonAt rules p)

-- What is told of the action at the position is so.
pub record AreShown (rules : Expression) (p : ℕ) (told : Facts) : Type 0 where
  pub kind : IsKind rules p told.kind
  pub alone : IsTrue told.alone → HasAction rules p (on (told.piece ∷ []))
  pub two : told.kind ≡ OnEither → HasAction rules p (on (told.piece ∷ told.other ∷ []))
  pub sure : IsTrue told.sure → IsSureAt rules p

-- What is told of the position is so.
pub record AreFacts (way : Way) (game : AbstractGame) (p : ℕ) (told : Facts) : Type 0 where
  pub still : IsTrue told.still → Stays way game.rules p
  pub shown : AreShown game.rules p told

abbrev pub way_by : Option Leaps → Way
way_by (Some leaps) = leaping
way_by None = stepping

abbrev pub way_if : (leaps : Bool) → Way
way_if true = leaping
way_if false = stepping

-- the way in which flat parts are led on
abbrev pub way_of : Paths → Way
way_of paths = way_by paths.leaps

-- The leaps, if there are any, are those of the game. The steps of its rules and the facts of each of its positions are
-- told; so is what comes next after some.
pub record ArePathsOf (game : AbstractGame) (paths : Paths) : Type 0 where
  pub leaps : IfSome paths.leaps (AreLeapsOf game)
  pub steps : AreStepsOf game paths.steps
  pub all : length paths.facts.items ≡ length (positions_of game.rules) + 1
  pub told :
      (p : ℕ) (told : Facts) → slice_get paths.facts.items p ≡ Some told → AreFacts (way_of paths) game p told
  pub onward : (p : ℕ) (told : Onward) → slice_get paths.onward.items p ≡ Some told → IsOnward game.rules p told
