-- The hall that goes on is the one that was prepared.
use Rattle.rbg_base.proofs.Common.{[]}
use Rattle.rbg_hosting.specs.Served.IsResumed.{goes_on, not_begun}
use Rattle.rbg_hosting.proofs.going_on.resume_hall.Goals as goal

pub returns-in-Ok : goal.returns-in-Ok
returns-in-Ok g c empty =
    let again = c.in-Ok.ensures.prepared in
    goes_on _ c.play.result.0 again.as_many again.logs again.same
    (c.play.ensures.archived _ _ _ again.prepared (c.prepare_again.ensures.handed [] empty))

pub returns-in-Err : goal.returns-in-Err
returns-in-Err g c empty = not_begun c.in-Err.fault (c.prepare_again.ensures.handed [] empty)
