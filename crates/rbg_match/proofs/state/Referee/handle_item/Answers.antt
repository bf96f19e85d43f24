-- The moment is handled, and then the item if there is the seat.
use Rattle.std.proofs.Common.{◌≡◌, Bool, true, false, [], ◌∷◌, sym, ap, ◌∙◌, if◌then◌else◌}
use Rattle.rbg_wire.specs.Inboxes.{item_of}
use Rattle.rbg_match.specs.Inputs.{is_seat_in}
use Rattle.rbg_match.proofs.Common.{sent, tick}
use Rattle.rbg_match.proofs.Events.{handles-append, handles_as, one_handled}
use Rattle.rbg_match.proofs.Replying.{refused_then, replies_then, replies_with}
use Rattle.rbg_match.proofs.state.Referee.handle_item.Goals as goal

pub returns-in_err-handle-2-clause-replies : goal.returns-in_err-handle-2-clause-replies
returns-in_err-handle-2-clause-replies c =
    let first = c.in_ok-handle.ensures.replies in
    refused_then first.after first.outgoing first.becomes c.handle-then-is_seat.ensures.replies c.from_residual-in_err-handle-2.result c.from_residual-in_err-handle-2.ensures.0 _

pub returns-in_ok-handle-2-clause-replies : goal.returns-in_ok-handle-2-clause-replies
returns-in_ok-handle-2-clause-replies c =
    let first = c.in_ok-handle.ensures.replies in
    let there : is_seat_in c.args.seats c.args.seat ≡ true = sym c.is_seat.ensures.value ∙ c.if-is_seat.true in
    replies_then first.after first.outgoing first.becomes c.in_ok-handle-2.ensures.replies _
    (λ done after next handles. handles_as c.args.self.now.moment _ _ (ap (λ (test : Bool). tick ∷ (if test then sent c.args.seat (item_of c.args.took) ∷ [] else [])) there) (handles-append (one_handled first.whole) (one_handled handles)))

pub returns-else-is_seat-clause-replies : goal.returns-else-is_seat-clause-replies
returns-else-is_seat-clause-replies c =
    let there : is_seat_in c.args.seats c.args.seat ≡ false = sym c.is_seat.ensures.value ∙ c.if-is_seat.false in
    replies_with c.in_ok-handle.ensures.replies tt _
    (λ after outgoing handles. handles_as c.args.self.now.moment _ _ (ap (λ (test : Bool). tick ∷ (if test then sent c.args.seat (item_of c.args.took) ∷ [] else [])) there) (one_handled handles))
