-- What holds of the expression of a tree.
use Rattle.std.specs.Prelude.{◌≡◌, ℕ, List, length}
use Rattle.rbg_rules.specs.declared.rule.Action.{Action}
use Rattle.rbg_rules.specs.declared.rule.Rule.{Rule}
use Rattle.rbg_rules.specs.Meaning.{Expression, HasNoEmptySum, positions_of, IsNumbered, expression_of}

-- It holds of the tree's expression with that many positions, whatever actions are at them, if the positions are
-- numbered and no sum is empty.
abbrev pub HoldsOfTree : (Holds : Expression → Type 0) → Rule → (positions : ℕ) → Type 0
HoldsOfTree Holds tree positions =
    (actions : List Action) → IsNumbered (expression_of actions tree) → HasNoEmptySum (expression_of actions tree) →
    positions ≡ length (positions_of (expression_of actions tree)) → Holds (expression_of actions tree)
