-- What the operations of a chain make of a value, one after another.
use Rattle.std.specs.Prelude.{ℤ, ◌+ℤ◌, ◌-ℤ◌, ◌*ℤ◌, Option, List, fold}
use Rattle.rbg_rules.specs.Meaning.{AbstractState, if_fits, on_values, divided, value_of, arithmetic_of}
use Rattle.rbg_rules.specs.declared.arithmetic.Operation.{Operation}
use Rattle.rbg_base.specs.declared.operator.Operator.{Operator}
use Rattle.rbg_base.specs.declared.operator.Operator.TheVariants.{Plus, Minus, Times, Over}

-- the sum, the difference, the product or the quotient of two values, if it has one
abbrev pub result_of : Operator → ℤ → ℤ → Option ℤ
result_of Plus x y = if_fits (x +ℤ y)
result_of Minus x y = if_fits (x -ℤ y)
result_of Times x y = if_fits (x *ℤ y)
result_of Over x y = divided x y

-- the value after the operations, if the one before them is a value and each has a result
unfoldable pub value_after : AbstractState → Option ℤ → List Operation → Option ℤ
value_after s value operations =
    fold (λ x o. on_values (result_of o.operator) x (value_of (arithmetic_of o.operand) s)) value operations
