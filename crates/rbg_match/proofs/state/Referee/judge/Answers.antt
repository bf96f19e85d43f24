use Rattle.std.proofs.Common.{subst}
use Rattle.rbg_match.proofs.Common.{PlaysOn, heavy, illegal, legal}
use Rattle.rbg_match.proofs.Replying.{replies_also, replies_then}
use Rattle.rbg_match.proofs.state.Referee.judge.Goals as goal

pub returns-in-Ok-None : goal.returns-in-Ok-None
returns-in-Ok-None c =
    let none = rw c.in-Ok-None.field-0-is at c.in-Ok-None.ensures.illegal in
    rw (← c.self.view_is) (replies_also c.refuse.ensures _ (λ done after outgoing refuses. illegal none (rw c.mover-seat.ensures at refuses)))

pub returns-in_ok-make-in-Ok-Some : goal.returns-in_ok-make-in-Ok-Some
returns-in_ok-make-in-Ok-Some c =
    let made = c.in_ok-make-in-Ok-Some.ensures in
    rw (← c.self.view_is) (replies_then made.after made.outgoing made.becomes c.play_on.ensures _ (λ done after next goes. rw made.whole.told (legal made.whole.legal (subst (λ play. PlaysOn c.self.inside.game c.self.inside.moment 0 play after next) made.whole.makes goes))))

pub returns-in-Err : goal.returns-in-Err
returns-in-Err c = rw (← c.self.view_is) (replies_also c.end_heavy.ensures _ (λ done after outgoing ends. rw (ends.1.0, ends.1.1) (heavy (c.in-Err.ensures.heavy ends.0))))
