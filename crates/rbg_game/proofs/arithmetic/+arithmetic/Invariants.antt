-- The chain so far is that of the first operand and of those that were read.
use Rattle.std.proofs.Common.{◌+◌, map, take}
use Rattle.rbg_grammar.proofs.Common.{no_operands, operands_after, operand_of}
use Rattle.rbg_rules.specs.Meaning.{changed, arithmetic_of, operation_of}
use Rattle.rbg_game.proofs.NumberingCommon.{names_of, ChainIs}
use Rattle.rbg_game.proofs.arithmetic.+arithmetic.Given as goal

abbrev pub invariant-number_operands-loop-operand : goal.invariant-number_operands-loop-operand
invariant-number_operands-loop-operand l =
    ChainIs (names_of l.names) (operands_after no_operands (map operand_of (take (l.operand-index + 1) l.operands))) (changed (arithmetic_of l.first) (map operation_of l.rest.items))
