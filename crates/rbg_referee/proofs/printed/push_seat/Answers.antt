-- One more message is printed.
use Rattle.rbg_referee.proofs.PrintedLemmas.{message_more}
use Rattle.rbg_referee.proofs.printed.push_seat.Goals as goal

pub loop-message-preserved : goal.loop-message-preserved
loop-message-preserved c =
    message_more c.args.seat c.args.bytes.now c.loop-message.left.now c.in-Some.rest.now c.in-Some.message.now
    c.args.lines.now.items c.loop-message.lines.items c.push_line.new.lines.items
    c.loop-message.invariant c.in-Some.ensures.found.0 c.in-Some.ensures.found.1 c.in_ok-push_line.ensures
