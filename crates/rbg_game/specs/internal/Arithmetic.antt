-- What the operations of a chain do.
use Rattle.std.specs.Prelude.{◌≡◌}
use Rattle.rbg_grammar.specs.Tree.{SpeltOperand}
use Rattle.rbg_rules.specs.Meaning.{AbstractArithmetic, operated, operation_of}
use Rattle.rbg_rules.specs.declared.arithmetic.Operation.{Operation}
use Rattle.rbg_game.specs.NameNumbers.{Names}
use Rattle.rbg_game.specs.Rules.{ArithmeticIs}

-- The operation combines a value with the operand.
pub record Combines (names : Names) (spelt : SpeltOperand) (operation : Operation) : Type 0 where
  pub operand : AbstractArithmetic
  pub is_operand : ArithmeticIs names spelt.1 operand
  pub does : (b : AbstractArithmetic) → operation_of operation b ≡ operated spelt.0 b operand
