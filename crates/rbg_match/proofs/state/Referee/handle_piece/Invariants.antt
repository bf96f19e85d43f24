use Rattle.std.proofs.Common.{length}
use Rattle.rbg_match.proofs.Taking.{HasTaken}
use Rattle.rbg_match.proofs.state.Referee.handle_piece.Given as goal

abbrev pub invariant-loop-took : goal.invariant-loop-took
invariant-loop-took l = HasTaken l.initial.self l.seat l.initial.inbox l.self l.inbox

abbrev pub decreases-loop-took : goal.decreases-loop-took
decreases-loop-took l = length l.inbox.items
