use Rattle.rbg_match.proofs.Replying.{replies_saying, refuses_saying, still_referee, moved_in_game}
use Rattle.rbg_match.proofs.state.Referee.make.Goals as goal

pub invariant_of-self : goal.invariant_of-self
invariant_of-self c = still_referee c.self.invariant c.queue_move.ensures c.self.invariant.in_game

pub invariant_of-self-in_err-make : goal.invariant_of-self-in_err-make
invariant_of-self-in_err-make c = still_referee c.self.invariant c.in_ok-queue_move.ensures (rw c.in_err-make.ensures.err c.self.invariant.in_game)

pub invariant_of-self-2 : goal.invariant_of-self-2
invariant_of-self-2 c =
    still_referee c.self.invariant c.in_ok-queue_move.ensures (rw c.in_ok-make.ensures.made (moved_in_game _ _ (rw (← c.self.view_is) at c.requires.in_game) c.self.invariant.in_game))

pub returns-in_err-queue_move : goal.returns-in_err-queue_move
returns-in_err-queue_move c = rw (← c.self.view_is) (refuses_saying _ c.queue_move.ensures _ c.from_residual.result c.from_residual.ensures.0 _)

pub returns-in_err-make : goal.returns-in_err-make
returns-in_err-make c = rw (← c.self.view_is) (refuses_saying _ c.in_ok-queue_move.ensures _ c.from_residual-in_err-make.result c.from_residual-in_err-make.ensures.0 _)

pub returns : goal.returns
returns c =
    let told = c.in_ok-queue_move.ensures in
    rw (← c.self.view_is) (replies_saying _ told _ _ _ (record { to = c.args.to; legal = rw (← c.self.view_is) at c.requires.legal; makes = c.in_ok-make.ensures.made; told = rw (c.as_slice.ensures.pairs, c.self.invariant.seats) at told.whole }))
