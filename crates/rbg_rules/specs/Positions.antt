-- Where the actions of an expression are: their positions, and the levels of the rules.
use Rattle.std.specs.Prelude.{◌≡◌, ℕ, ◌⊎◌, List, [], ◌∷◌, ◌++◌, length, Bool, true, false, All}
use Rattle.std.specs.List.{range_with_len}
use Rattle.rbg_rules.specs.Expression.{AbstractAction, off, assignment, switch, positive, negative, Expression, act, skip, sequence, fail, choice, star}

abbrev mutual
  -- The action a is at position p somewhere in the expression, also inside a pattern of it.
  pub HasAction : Expression → ℕ → AbstractAction → Type 0
  HasAction (act q b) p a = (p ≡ q) × (a ≡ b) ⊎ HasInside b p a
  HasAction skip p a = ⊥
  HasAction (sequence x y) p a = HasAction x p a ⊎ HasAction y p a
  HasAction fail p a = ⊥
  HasAction (choice x y) p a = HasAction x p a ⊎ HasAction y p a
  HasAction (star x) p a = HasAction x p a

  -- The same of what an action has inside: only a pattern has anything inside.
  pub HasInside : AbstractAction → ℕ → AbstractAction → Type 0
  HasInside (positive x) p a = HasAction x p a
  HasInside (negative x) p a = HasAction x p a
  HasInside _ p a = ⊥

-- The action a is at position p of the expression itself, so not inside a pattern: it belongs directly to the
-- expression.
abbrev pub HasOwnAction : Expression → ℕ → AbstractAction → Type 0
HasOwnAction (act q b) p a = (p ≡ q) × (a ≡ b)
HasOwnAction skip p a = ⊥
HasOwnAction (sequence x y) p a = HasOwnAction x p a ⊎ HasOwnAction y p a
HasOwnAction fail p a = ⊥
HasOwnAction (choice x y) p a = HasOwnAction x p a ⊎ HasOwnAction y p a
HasOwnAction (star x) p a = HasOwnAction x p a

abbrev mutual
  -- All positions in an expression in order of text, a pattern's before those inside it.
  pub positions_of : Expression → List ℕ
  positions_of (act p a) = p ∷ positions_inside a
  positions_of skip = []
  positions_of (sequence x y) = positions_of x ++ positions_of y
  positions_of fail = []
  positions_of (choice x y) = positions_of x ++ positions_of y
  positions_of (star x) = positions_of x

  pub positions_inside : AbstractAction → List ℕ
  positions_inside (positive x) = positions_of x
  positions_inside (negative x) = positions_of x
  positions_inside _ = []

-- The actions are numbered from 1 in order of text, so each number occurs once. (Own: the paper distinguishes
-- occurrences without numbers.)
pub record IsNumbered (x : Expression) : Type 0 where
  pub in_order : positions_of x ≡ range_with_len 1 (length (positions_of x))

-- Modifiers are offs, assignments and switches: the actions that change more than the current vertex.
abbrev pub is_modifier : AbstractAction → Bool
is_modifier (off x) = true
is_modifier (assignment v e) = true
is_modifier (switch n) = true
is_modifier _ = false

-- A pattern, positive or negative, asks for words of its inner expression.
abbrev pub is_pattern : AbstractAction → Bool
is_pattern (positive x) = true
is_pattern (negative x) = true
is_pattern _ = false

-- The action is the positive or the negative pattern of x.
abbrev pub IsPatternOf : AbstractAction → Expression → Type 0
IsPatternOf a x = (a ≡ positive x) ⊎ (a ≡ negative x)

-- A modifier is at the position.
pub record IsModifierAt (rules : Expression) (p : ℕ) : Type 0 where
  pub action : AbstractAction
  pub stands : HasAction rules p action
  pub modifies : is_modifier action ≡ true

-- A switch is at the position.
pub record IsSwitchAt (rules : Expression) (p : ℕ) : Type 0 where
  pub player : ℕ
  pub stands : HasAction rules p (switch player)

-- No modifier, or no switch, is among the positions w.
abbrev pub HasNoModifier : Expression → List ℕ → Type 0
HasNoModifier rules w = All (λ p. ¬ IsModifierAt rules p) w

abbrev pub HasNoSwitch : Expression → List ℕ → Type 0
HasNoSwitch rules w = All (λ p. ¬ IsSwitchAt rules p) w

-- The levels of rules: the rules themselves, and the inside of each pattern, by the pattern's position.
pub data Level : Type 0 where
  outermost : Level
  inside : (pattern : ℕ) → Level

-- The expression of a level: the rules, or the inner expression of the pattern at that position. An action belongs
-- directly to the innermost expression that holds it, so it belongs to one level.
abbrev pub IsLevel : Expression → Level → Expression → Type 0
IsLevel rules outermost x = x ≡ rules
IsLevel rules (inside p) x = HasAction rules p (positive x) ⊎ HasAction rules p (negative x)

-- A pattern is at the position.
pub record IsPatternAt (rules : Expression) (p : ℕ) : Type 0 where
  pub inside_it : Expression
  pub stands : IsLevel rules (inside p) inside_it
