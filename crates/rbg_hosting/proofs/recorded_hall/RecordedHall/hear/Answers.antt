-- The hall hears it, and then hands over what is to be handed over.
use Rattle.rbg_hosting.proofs.StandingLemmas.{hall_stands}
use Rattle.rbg_hosting.proofs.recorded_hall.RecordedHall.hear.Goals as goal

pub returns-clause-hears : goal.returns-clause-hears
returns-clause-hears g c =
    let hears = c.in_ok-step.ensures.hears in
    (hears, c.hand_over.ensures c.args.self.now.hall.state.tables (hall_stands hears))
