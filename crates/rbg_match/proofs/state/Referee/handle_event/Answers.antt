use Rattle.std.proofs.Common.{◌≡◌, ◌-◌, ◌<◌, true, false, length, ap, ◌∙◌, arith}
use Rattle.rbg_match.proofs.Common.{rests_of, event_of, inputs_in, has_seat}
use Rattle.rbg_match.proofs.Replying.{replies_also, replies_with, replies_then, refused_then}
use Rattle.rbg_match.proofs.Events.{one_handled, seat_test, handles_as, handles_piece, inputs_of_piece_of_none, inputs_of_end, inputs_of_end_of_none, rests_after_piece}
use Rattle.rbg_match.proofs.state.Referee.handle_event.Goals as goal
use Rattle.rbg_match.proofs.state.Referee.handle_event.Goals.{In_ok-handle_piece-in-Piece}

pub returns-in_err-handle_piece-in-Piece-clause-replies : goal.returns-in_err-handle_piece-in-Piece-clause-replies
returns-in_err-handle_piece-in-Piece-clause-replies c =
    let first = c.in_ok-handle-in-Piece.ensures.replies in
    refused_then first.after first.outgoing first.becomes c.handle_piece.ensures.replies c.from_residual-in_err-handle_piece-in-Piece.result c.from_residual-in_err-handle_piece-in-Piece.ensures.0 _

is_there : (c : In_ok-handle_piece-in-Piece) → c.in-Piece.seat - 1 < length c.args.inboxes.now
is_there c = let range = c.is_seat.ensures.range.0 c.if-is_seat.true in omega (arith, range.0, range.1)

is_seat_of : (c : In_ok-handle_piece-in-Piece) → has_seat (rests_of c.args.inboxes.now) c.in-Piece.seat ≡ true
is_seat_of c = seat_test c.args.inboxes.now c.in-Piece.seat c.is_seat.result true c.is_seat.ensures.value c.if-is_seat.true

pub returns-in_ok-handle_piece-in-Piece-clause-replies : goal.returns-in_ok-handle_piece-in-Piece-clause-replies
returns-in_ok-handle_piece-in-Piece-clause-replies c =
    let first = c.in_ok-handle-in-Piece.ensures.replies in
    replies_then first.after first.outgoing first.becomes c.in_ok-handle_piece-in-Piece.ensures.replies _
    (λ done after next goes. handles_piece c.args.self.now.moment c.args.inboxes.now (event_of c.args.event) c.in-Piece.seat c.in-Piece.at c.in-Piece.bytes.now c.index-inboxes-seat.result (ap event_of c.in-Piece.is) (is_seat_of c) (is_there c) first.whole goes)

pub returns-in_ok-handle_piece-in-Piece-clause-rests : goal.returns-in_ok-handle_piece-in-Piece-clause-rests
returns-in_ok-handle_piece-in-Piece-clause-rests c =
    rests_after_piece c.args.inboxes.now (event_of c.args.event) c.in-Piece.seat c.in-Piece.at c.in-Piece.bytes.now c.index-inboxes-seat.result c.handle_piece.new.inbox (ap event_of c.in-Piece.is) (is_seat_of c) (is_there c) c.in_ok-handle_piece-in-Piece.ensures.rest

pub returns-else-is_seat-clause-replies : goal.returns-else-is_seat-clause-replies
returns-else-is_seat-clause-replies c =
    let test = seat_test c.args.inboxes.now c.in-Piece.seat c.is_seat.result false c.is_seat.ensures.value c.if-is_seat.false in
    replies_with c.in_ok-handle-in-Piece.ensures.replies tt _
    (λ after outgoing handles. handles_as c.args.self.now.moment _ _ (ap (λ event. inputs_in (rests_of c.args.inboxes.now) (event_of event)) c.in-Piece.is ∙ inputs_of_piece_of_none (rests_of c.args.inboxes.now) c.in-Piece.seat c.in-Piece.at c.in-Piece.bytes.now test) (one_handled handles))

pub returns-then-is_seat-2-clause-replies : goal.returns-then-is_seat-2-clause-replies
returns-then-is_seat-2-clause-replies c =
    let test = seat_test c.args.inboxes.now c.in-Ended.seat c.is_seat-in-Ended.result true c.is_seat-in-Ended.ensures.value c.if-is_seat-2.true in
    replies_also c.handle-then-is_seat-2.ensures.replies _
    (λ done after outgoing handles. handles_as c.args.self.now.moment _ _ (ap (λ event. inputs_in (rests_of c.args.inboxes.now) (event_of event)) c.in-Ended.is ∙ inputs_of_end (rests_of c.args.inboxes.now) c.in-Ended.seat c.in-Ended.at test) (one_handled handles))

pub returns-else-is_seat-2-clause-replies : goal.returns-else-is_seat-2-clause-replies
returns-else-is_seat-2-clause-replies c =
    let test = seat_test c.args.inboxes.now c.in-Ended.seat c.is_seat-in-Ended.result false c.is_seat-in-Ended.ensures.value c.if-is_seat-2.false in
    replies_also c.handle-else-is_seat-2.ensures.replies _
    (λ done after outgoing handles. handles_as c.args.self.now.moment _ _ (ap (λ event. inputs_in (rests_of c.args.inboxes.now) (event_of event)) c.in-Ended.is ∙ inputs_of_end_of_none (rests_of c.args.inboxes.now) c.in-Ended.seat c.in-Ended.at test) (one_handled handles))

pub returns-in-Tick-clause-replies : goal.returns-in-Tick-clause-replies
returns-in-Tick-clause-replies c = replies_also c.handle-in-Tick.ensures.replies _ (λ done after outgoing handles. rw c.in-Tick.is (one_handled handles))
