use Rattle.std.proofs.Common.{subst}
use Rattle.rbg_hall.proofs.Common.{HeldHall, HallStops}
use Rattle.rbg_hall.proofs.Halls.{hall_stops}
use Rattle.rbg_hall.proofs.Ticking.{none_stops}
use Rattle.rbg_hall.proofs.hall.Hall.step.Goals as goal

pub returns-then-self-clause-stops : goal.returns-then-self-clause-stops
returns-then-self-clause-stops g c =
    subst (λ (hall : HeldHall _). HallStops g.W.Log.told hall.state.tables hall.ledgers hall.state.tables hall.ledgers) c.self.view_is
    (hall_stops (none_stops g.W.Log.told c.self.inside.tables.items))
