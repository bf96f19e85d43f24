use Rattle.std.proofs.Common.{◌≡◌, length, map}
use Rattle.rbg_macro.specs.declared.token.Symbol.TheVariants as symbols
use Rattle.rbg_grammar.proofs.Common.{separated_at, assignment_at, sum_at, rule_of}
use Rattle.rbg_grammar.proofs.Turns.{prepend}
use Rattle.rbg_syntax.proofs.parser.Parser.assignments.Given as goal

abbrev pub invariant-loop-parts : goal.invariant-loop-parts
invariant-loop-parts l =
    separated_at symbols.Comma (assignment_at (sum_at l.brackets)) l.fn.self
    ≡ prepend (map rule_of l.parts.items) (separated_at symbols.Comma (assignment_at (sum_at l.brackets)) l.self)

abbrev pub decreases-loop-parts : goal.decreases-loop-parts
decreases-loop-parts l = length l.self
