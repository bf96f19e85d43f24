use Rattle.std.proofs.Common.{refl}
use Rattle.rbg_match.proofs.Replying.{replies_saying, refuses_saying, still_referee, ended_in_game}
use Rattle.rbg_match.proofs.state.Referee.leave.Goals as goal

pub invariant_of-self : goal.invariant_of-self
invariant_of-self c = still_referee c.self.invariant c.queue_for_others.ensures (ended_in_game _ c.self.invariant.in_game)

pub returns-in_err-queue_for_others : goal.returns-in_err-queue_for_others
returns-in_err-queue_for_others c = rw (← c.self.view_is) (refuses_saying _ c.queue_for_others.ensures _ c.from_residual.result c.from_residual.ensures.0 _)

pub invariant_of-self-2 : goal.invariant_of-self-2
invariant_of-self-2 c = still_referee c.self.invariant c.in_ok-queue_for_others.ensures (ended_in_game _ c.self.invariant.in_game)

pub returns : goal.returns
returns c = rw (← c.self.view_is) (replies_saying _ c.in_ok-queue_for_others.ensures _ _ _ (refl, rw c.self.invariant.seats at c.in_ok-queue_for_others.ensures.whole))
