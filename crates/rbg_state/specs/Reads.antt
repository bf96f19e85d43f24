-- Which variables arithmetic reads.
use Rattle.std.specs.Prelude.{ℕ, ◌<◌}
use Rattle.rbg_rules.specs.Meaning.{AbstractArithmetic, number, variable, piece_count, negated, sum, difference, product, quotient}

-- each variable that the expression reads has a number below this one
abbrev pub ReadsBelow : ℕ → AbstractArithmetic → Type 0
ReadsBelow limit (number n) = Unit {0}
ReadsBelow limit (variable v) = v < limit
ReadsBelow limit (piece_count p) = Unit {0}
ReadsBelow limit (negated e) = ReadsBelow limit e
ReadsBelow limit (sum e f) = ReadsBelow limit e × ReadsBelow limit f
ReadsBelow limit (difference e f) = ReadsBelow limit e × ReadsBelow limit f
ReadsBelow limit (product e f) = ReadsBelow limit e × ReadsBelow limit f
ReadsBelow limit (quotient e f) = ReadsBelow limit e × ReadsBelow limit f
