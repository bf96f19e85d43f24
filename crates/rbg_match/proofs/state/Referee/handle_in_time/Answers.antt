use Rattle.std.proofs.Common.{◌∙◌, sym, refl}
use Rattle.rbg_wire.specs.Streams.{complete}
use Rattle.rbg_match.specs.Handling.{out_of_turn, unreadable, too_many, judged}
use Rattle.rbg_match.proofs.Replying.{replies_also}
use Rattle.rbg_match.proofs.state.Referee.handle_in_time.Goals as goal

pub returns-then-seat-mover : goal.returns-then-seat-mover
returns-then-seat-mover c = rw (← c.self.view_is) (replies_also (rw (← c.self.view_is) at c.refuse.ensures) _ (λ done after outgoing refuses. out_of_turn (λ same. c.if-seat-mover.true (same ∙ sym c.mover.ensures)) refuses))

pub returns-in_default : goal.returns-in_default
returns-in_default c = rw (← c.self.view_is) (replies_also (rw (← c.self.view_is) at c.refuse-in_default.ensures) _ (λ done after outgoing refuses. unreadable (c.if-seat-mover.false ∙ c.mover.ensures) (rw c.in_default.is tt) refuses))

pub returns-in-Ok : goal.returns-in-Ok
returns-in-Ok c =
    let found = c.in-Ok.ensures.found in
    rw (← c.self.view_is) (replies_also (rw (← c.self.view_is) at c.judge.ensures) _ (λ done after outgoing judges. rw c.in-Message.is (judged (c.if-seat-mover.false ∙ c.mover.ensures) found.0 found.1 judges)))

pub returns-in-Err-Malformed : goal.returns-in-Err-Malformed
returns-in-Err-Malformed c =
    let malformed = rw c.in-Err-Malformed.field-0-is at c.in-Err-Malformed.ensures.malformed in
    rw (← c.self.view_is) (replies_also (rw (← c.self.view_is) at c.refuse-in-Err-Malformed.ensures) _ (λ done after outgoing refuses. rw c.in-Message.is (unreadable {item = complete c.in-Message.text.now} (c.if-seat-mover.false ∙ c.mover.ensures) (malformed.0 refl) refuses)))

pub returns-in-Err-TooManyPairs : goal.returns-in-Err-TooManyPairs
returns-in-Err-TooManyPairs c =
    let long = (rw c.in-Err-TooManyPairs.field-0-is at c.in-Err-TooManyPairs.ensures.too_many).0 refl in
    rw (← c.self.view_is) (replies_also (rw (← c.self.view_is) at c.refuse-in-Err-TooManyPairs.ensures) _ (λ done after outgoing refuses. rw c.in-Message.is (too_many (c.if-seat-mover.false ∙ c.mover.ensures) long.spelled long.more refuses)))
