-- A hall that can fail.
use Rattle.std.specs.Prelude.{Bool, List}
use Rattle.rbg_hall.specs.Kept.{Ledger}
use Rattle.rbg_hall.specs.Halls.{HallState}

-- A hall, the ledger of each table, table 1 first, and whether something that it heard failed. From then on it hears
-- nothing.
pub record HeldHall (W : Type 0) : Type 0 where
  pub state : HallState
  pub ledgers : List (Ledger W)
  pub failed : Bool
