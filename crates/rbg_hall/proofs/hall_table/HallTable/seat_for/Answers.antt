use Rattle.std.proofs.Common.{subst}
use Rattle.rbg_hall.proofs.Sitting.{seat_is}
use Rattle.rbg_hall.proofs.TableCommon.{IsSeatOf}
use Rattle.rbg_hall.proofs.hall_table.HallTable.seat_for.Goals as goal

pub returns-in-Some : goal.returns-in-Some
returns-in-Some c =
    subst (λ from. IsSeatOf c.args.self.now from c.seat_of.result) c.in-Some.ensures (seat_is c.args.self.now c.in-Some.line c.seat_of.result c.seat_of.ensures.sits c.seat_of.ensures.small c.seat_of.ensures.none)
