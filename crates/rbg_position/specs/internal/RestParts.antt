-- The parts of the rest of the rules, as they are gathered.
use Rattle.std.specs.Prelude.{◌≡◌, ℕ, List, ◌++◌, map}
use Rattle.std.specs.Borrow.{Bor}
use Rattle.rbg_rules.specs.declared.rule.Action.{Action}
use Rattle.rbg_rules.specs.declared.rule.Rule.{Rule}
use Rattle.rbg_rules.specs.Meaning.{Expression, expression_of, sequence_of}
use Rattle.rbg_position.specs.declared.key_mark.KeyMark.{KeyMark}
use Rattle.rbg_position.specs.Rest.{IsRest}
use Rattle.rbg_position.specs.internal.Marks.{rules_key}

-- The new list is the old one and then the rest of the expression after its action at the position.
pub record AppendsRest (x : Expression) (position : ℕ) (old new : List Expression) : Type 0 where
  pub rest : List Expression
  pub is_rest : IsRest x position rest
  pub appended : new ≡ old ++ rest

-- What the parts are, each lent.
abbrev pub parts_of : List Action → List (Bor Rule) → List Expression
parts_of actions parts = map (λ part. expression_of actions part.now) parts

-- The marks are the key of the rest of the expression after its action at the position.
pub record IsKeyOfRest (x : Expression) (position : ℕ) (key : List KeyMark) : Type 0 where
  pub rest : List Expression
  pub is_rest : IsRest x position rest
  pub is_key : key ≡ rules_key (sequence_of rest)
