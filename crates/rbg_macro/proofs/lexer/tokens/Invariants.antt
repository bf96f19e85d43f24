-- The tokens of the text are those so far, followed by those of the rest.
use Rattle.std.proofs.Common.{length, ◌-◌}
use Rattle.rbg_macro.proofs.Scan.{HasReadTo}
use Rattle.rbg_macro.proofs.lexer.tokens.Given as goal

abbrev pub invariant-loop-at : goal.invariant-loop-at
invariant-loop-at l = HasReadTo l.text l.at l.tokens.items

abbrev pub decreases-loop-at : goal.decreases-loop-at
decreases-loop-at l = length l.text - l.at
