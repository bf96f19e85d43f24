use Rattle.std.proofs.Common.{◌∙◌, sym}
use Rattle.rbg_match.specs.Handling.{nothing, leaving, overdue, in_time}
use Rattle.rbg_match.proofs.Replying.{replies_also, replies_nothing}
use Rattle.rbg_match.proofs.HandlingLemmas.{is_not_there, handles_after_end}
use Rattle.rbg_match.proofs.state.Referee.handle.Goals as goal

pub returns-then-is_some-clause-replies : goal.returns-then-is_some-clause-replies
returns-then-is_some-clause-replies c = rw (← c.self.view_is) (replies_nothing tt _ _ (handles_after_end _ _ _ _ _ (sym c.is_some.ensures ∙ c.if-is_some.true)))

pub returns-then-self-clause-replies : goal.returns-then-self-clause-replies
returns-then-self-clause-replies c =
    rw (← c.self.view_is) (replies_also (rw (← c.self.view_is) at c.end.ensures) _ (λ done after outgoing ends. rw (ends.0, ends.1, c.mover.ensures) (overdue (is_not_there _ (sym c.is_some.ensures ∙ c.if-is_some.false)) c.if-self.true)))

pub returns-in-Tick-clause-replies : goal.returns-in-Tick-clause-replies
returns-in-Tick-clause-replies c = rw (← c.self.view_is) (replies_nothing tt _ _ (in_time (is_not_there _ (sym c.is_some.ensures ∙ c.if-is_some.false)) c.if-self.false (rw c.in-Tick.is nothing)))

pub returns-in-Gone-clause-replies : goal.returns-in-Gone-clause-replies
returns-in-Gone-clause-replies c =
    rw (← c.self.view_is) (replies_also (rw (← c.self.view_is) at c.leave.ensures) _ (λ done after outgoing ends. rw (ends.0, ends.1, c.in-Gone.is) (in_time (is_not_there _ (sym c.is_some.ensures ∙ c.if-is_some.false)) c.if-self.false leaving)))

pub returns-in-Sent-clause-replies : goal.returns-in-Sent-clause-replies
returns-in-Sent-clause-replies c =
    rw (← c.self.view_is) (replies_also (rw (← c.self.view_is) at c.handle_in_time.ensures) _ (λ done after outgoing hears. in_time (is_not_there _ (sym c.is_some.ensures ∙ c.if-is_some.false)) c.if-self.false (rw c.in-Sent.is hears)))
