use Rattle.std.proofs.Common.{◌++◌, refl}
use Rattle.rbg_match.proofs.Sayings.{said_more, said_refused, length-says}
use Rattle.rbg_match.proofs.opening.greet_seat.Goals as goal

pub queue_message-requires-2-clause-is_there : goal.queue_message-requires-2-clause-is_there
queue_message-requires-2-clause-is_there c = rw (length-says c.queue_message.ensures) c.requires.most

pub returns-in_err-queue_message-2 : goal.returns-in_err-queue_message-2
returns-in_err-queue_message-2 c =
    let first = c.in_ok-queue_message.ensures in
    said_refused first.outgoing first.beyond c.queue_message-2.ensures c.from_residual-in_err-queue_message-2.result c.from_residual-in_err-queue_message-2.ensures.0 _

pub queue_message-requires-3-clause-is_there : goal.queue_message-requires-3-clause-is_there
queue_message-requires-3-clause-is_there c = rw (length-says c.queue_message-2.ensures, length-says c.queue_message.ensures) c.requires.most

pub returns-in_err-queue_message-3 : goal.returns-in_err-queue_message-3
returns-in_err-queue_message-3 c =
    let first = c.in_ok-queue_message.ensures in
    let second = c.in_ok-queue_message-2.ensures in
    said_refused (first.outgoing ++ second.outgoing) (said_more _ first.outgoing second.outgoing first.beyond second.beyond) c.queue_message-3.ensures c.from_residual-in_err-queue_message-3.result c.from_residual-in_err-queue_message-3.ensures.0 _

pub returns : goal.returns
returns c =
    let first = c.in_ok-queue_message.ensures in
    let second = c.in_ok-queue_message-2.ensures in
    let third = c.in_ok-queue_message-3.ensures in
    record {
      outgoing = (first.outgoing ++ second.outgoing) ++ third.outgoing;
      beyond = said_more _ (first.outgoing ++ second.outgoing) third.outgoing (said_more _ first.outgoing second.outgoing first.beyond second.beyond) third.beyond;
      whole = rw (first.whole, second.whole, third.whole, c.as_bytes.ensures.value, c.from.ensures) refl;
    }
