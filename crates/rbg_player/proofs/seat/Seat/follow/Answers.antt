use Rattle.rbg_player.specs.Hearing.{illegal}
use Rattle.rbg_player.specs.internal.Sitting.{error_of}
use Rattle.rbg_base.proofs.Errors.{passed_on}
use Rattle.rbg_player.proofs.HearingLemmas.{try_fault}
use Rattle.rbg_player.proofs.seat.Seat.follow.Goals as goal

pub returns-in_err-to-clause-fault : goal.returns-in_err-to-clause-fault
returns-in_err-to-clause-fault c =
    rw (← c.self.view_is) (passed_on c.from_residual.result (error_of c.in_err-to.field-0.0) _ c.from_residual.ensures.1 (try_fault _ _ c.args.pairs.now c.in_err-to.field-0.0 c.in_err-to.ensures.tries.given_up.heavy))

pub returns-in-None-clause-fault : goal.returns-in-None-clause-fault
returns-in-None-clause-fault c = rw (← c.self.view_is) (illegal (rw c.in-None.is at c.in_ok-to.ensures.tries.illegal))
