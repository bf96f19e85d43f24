use Rattle.rbg_hall.proofs.Seats.{lines_have_one_seat}
use Rattle.rbg_hall.proofs.table_laws.lines_have_one_seat.Goals as goal

pub returns : goal.returns
returns c = lines_have_one_seat
