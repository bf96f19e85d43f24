-- The actions of the rules by position.
use Rattle.std.specs.Prelude.{◌≡◌, ℕ, ◌≤◌, max, List, [], ◌∷◌}
use Rattle.rbg_rules.specs.declared.rule.Action.{Action}
use Rattle.rbg_rules.specs.declared.rule.Action.TheVariants.{Shift, On, Off, Assign, Compare, Switch, Positive, Negative}
use Rattle.rbg_rules.specs.declared.rule.Rule.{Rule}
use Rattle.rbg_rules.specs.declared.rule.Rule.TheOpen.{Rule-F}
use Rattle.rbg_rules.specs.declared.rule.Rule.TheFolds.{fold-Rule}
use Rattle.rbg_rules.specs.Expression.{AbstractAction, shift, on, off, assignment, comparison, switch, positive, negative, Expression}
use Rattle.rbg_rules.specs.Positions.{HasAction}
use Rattle.rbg_rules.specs.Translation.{arithmetic_of}

-- The action of the program is this one, for a pattern with some inside.
abbrev pub Shows : AbstractAction → Action → Type 0
Shows a (Shift d) = a ≡ shift d
Shows a (On pieces) = a ≡ on pieces.items
Shows a (Off x) = a ≡ off x
Shows a (Assign v e) = a ≡ assignment v (arithmetic_of e)
Shows a (Compare e r f) = a ≡ comparison (arithmetic_of e) r (arithmetic_of f)
Shows a (Switch n) = a ≡ switch n
Shows a Positive = (x : Expression) × (a ≡ positive x)
Shows a Negative = (x : Expression) × (a ≡ negative x)

-- The action is at position p of the rules: a pattern with some inside.
abbrev pub IsActionAt : Expression → ℕ → Action → Type 0
IsActionAt rules p (Shift d) = HasAction rules p (shift d)
IsActionAt rules p (On pieces) = HasAction rules p (on pieces.items)
IsActionAt rules p (Off x) = HasAction rules p (off x)
IsActionAt rules p (Assign v e) = HasAction rules p (assignment v (arithmetic_of e))
IsActionAt rules p (Compare e r f) = HasAction rules p (comparison (arithmetic_of e) r (arithmetic_of f))
IsActionAt rules p (Switch n) = HasAction rules p (switch n)
IsActionAt rules p Positive = (x : Expression) × HasAction rules p (positive x)
IsActionAt rules p Negative = (x : Expression) × HasAction rules p (negative x)

abbrev pub greatest : List ℕ → ℕ
greatest [] = 0
greatest (n ∷ ns) = max n (greatest ns)

abbrev pub last_step : Rule-F ℕ → ℕ
last_step (Rule-F.Act p) = p
last_step (Rule-F.Pattern p inside) = max p inside.value
last_step (Rule-F.Then parts) = greatest parts.items
last_step (Rule-F.Or parts) = greatest parts.items
last_step (Rule-F.Star part) = part.value

-- The maximum position in a tree.
unfoldable pub last_position : Rule → ℕ
last_position tree = fold-Rule ℕ last_step tree

-- No position in the tree is above `positions`.
pub record IsWithin (positions : ℕ) (tree : Rule) : Type 0 where
  pub last : last_position tree ≤ positions
