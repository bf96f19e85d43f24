-- Each sum in parentheses has one bracket less to open, and the operands of a sum are products. What a loop has read
-- comes before what it will read.
use Rattle.std.proofs.Common.{ℕ, ◌+◌, ◌*◌, length, map}
use Rattle.rbg_grammar.specs.declared.expression.Rank.{Rank}
use Rattle.rbg_grammar.specs.declared.expression.Rank.TheVariants as ranks
use Rattle.rbg_grammar.proofs.Common.{further_operand_at, is_operator, operand_at, primary_at, first_of, expression_of, operand_of}
use Rattle.rbg_grammar.proofs.Turns.{ReadsOn}
use Rattle.rbg_syntax.proofs.parser.Parser.+sum.Given as goal

-- the calls of a product that are inside one of this rank: four in a sum, none in a product
abbrev pub below : Rank → ℕ
below ranks.Product = 0
below ranks.Sum = 4

abbrev pub decreases-primary : goal.decreases-primary
decreases-primary l = 11 * l.brackets

abbrev pub decreases-factor : goal.decreases-factor
decreases-factor l = 11 * l.brackets + 1

abbrev pub decreases-operand : goal.decreases-operand
decreases-operand l = 11 * l.brackets + below l.rank + 2

abbrev pub decreases-further_operand : goal.decreases-further_operand
decreases-further_operand l = 11 * l.brackets + below l.rank + 3

abbrev pub decreases-further_operands : goal.decreases-further_operands
decreases-further_operands l = 11 * l.brackets + below l.rank + 4

abbrev pub decreases-chain : goal.decreases-chain
decreases-chain l = 11 * l.brackets + below l.rank + 5

abbrev pub decreases-sum : goal.decreases-sum
decreases-sum l = 11 * l.brackets + 10

abbrev pub invariant-further_operands-loop-alloc : goal.invariant-further_operands-loop-alloc
invariant-further_operands-loop-alloc l =
    ReadsOn (first_of l.rank, expression_of l.fn.first) (is_operator l.rank) (further_operand_at l.rank (operand_at l.rank (primary_at l.brackets))) l.fn.self (map operand_of l.operands.items) l.self

abbrev pub decreases-further_operands-loop-alloc : goal.decreases-further_operands-loop-alloc
decreases-further_operands-loop-alloc l = length l.self
