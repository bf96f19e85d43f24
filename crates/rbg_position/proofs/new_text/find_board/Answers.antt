-- There is no `#board`.
use Rattle.std.proofs.Common.{arith}
use Rattle.rbg_position.proofs.Tokens.{begins_nowhere}
use Rattle.rbg_position.proofs.new_text.find_board.Goals as goal

pub returns-clause-none : goal.returns-clause-none
returns-clause-none c =
    begins_nowhere c.args.tokens.now c.loop-at.at (omega (arith, c.loop-at-test.false)) c.loop-at.invariant
