-- The value of arithmetic in a semi-state. (Own: the range of signed 64 bits, how division rounds, and when there is no
-- value.)
use Rattle.std.specs.Prelude.{◌≡◌, zero, ◌^◌, ◌-◌, ◌==◌, ◌&&◌, ℤ, pos, negsuc, ◌+ℤ◌, ◌-ℤ◌, ◌*ℤ◌, ◌<ℤ◌, ◌≤ℤ◌, int_le, int_div, slice_index, count_by, Option, Some, None, if◌then◌else◌, ◌≢◌}
use Rattle.rbg_base.specs.declared.relation.Relation.{Relation}
use Rattle.rbg_base.specs.declared.relation.Relation.TheVariants.{Equal, NotEqual, Less, LessOrEqual, Greater, GreaterOrEqual}
use Rattle.rbg_rules.specs.Expression.{AbstractArithmetic, number, variable, piece_count, negated, sum, difference, product, quotient}
use Rattle.rbg_rules.specs.State.{AbstractState}

-- z itself if it is a signed number of 64 bits, from -2^63 to 2^63 - 1, and else no value
abbrev pub if_fits : ℤ → Option ℤ
if_fits z = if int_le (negsuc (2 ^ 63 - 1)) z && int_le z (pos (2 ^ 63 - 1)) then Some z else None

-- an operation on two values: no value if an operand has none
abbrev pub on_values : (ℤ → ℤ → Option ℤ) → Option ℤ → Option ℤ → Option ℤ
on_values f (Some x) (Some y) = f x y
on_values f (Some x) None = None
on_values f None y = None

-- division drops the fraction, toward zero; by zero it has no value
abbrev pub divided : ℤ → ℤ → Option ℤ
divided x (pos zero) = None
divided x y = if_fits (int_div x y)

-- The value of an expression in a semi-state, or none: none if any part leaves signed 64 bits, or a divisor is zero.
-- The value of a piece's name is the number of vertices that hold it. A leading minus is 0 minus its factor.
abbrev pub value_of : AbstractArithmetic → AbstractState → Option ℤ
value_of (number n) s = if_fits (pos n)
value_of (variable v) s = if_fits (pos (slice_index s.values v))
value_of (piece_count p) s = if_fits (pos (count_by (λ x. x == p) s.pieces))
value_of (negated e) s = on_values (λ x y. if_fits (x -ℤ y)) (Some (pos 0)) (value_of e s)
value_of (sum e f) s = on_values (λ x y. if_fits (x +ℤ y)) (value_of e s) (value_of f s)
value_of (difference e f) s = on_values (λ x y. if_fits (x -ℤ y)) (value_of e s) (value_of f s)
value_of (product e f) s = on_values (λ x y. if_fits (x *ℤ y)) (value_of e s) (value_of f s)
value_of (quotient e f) s = on_values divided (value_of e s) (value_of f s)

-- the relation holds between x and y
abbrev pub Relates : Relation → ℤ → ℤ → Type 0
Relates Equal x y = x ≡ y
Relates NotEqual x y = x ≢ y
Relates Less x y = x <ℤ y
Relates LessOrEqual x y = x ≤ℤ y
Relates Greater x y = y <ℤ x
Relates GreaterOrEqual x y = y ≤ℤ x
