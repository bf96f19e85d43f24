use Rattle.rbg_player.specs.internal.Sitting.{error_of}
use Rattle.rbg_base.proofs.Errors.{passed_on}
use Rattle.rbg_player.proofs.HearingLemmas.{unanswered}
use Rattle.rbg_player.proofs.seat.Seat.list_moves.Goals as goal

pub returns-in_err-listed-clause-fault : goal.returns-in_err-listed-clause-fault
returns-in_err-listed-clause-fault c =
    rw (← c.self.view_is) (λ mover. passed_on c.from_residual.result (error_of c.in_err-listed.field-0.0) _ c.from_residual.ensures.1 (unanswered _ _ c.in_err-listed.field-0.0 mover c.in_err-listed.ensures.given_up.heavy))
