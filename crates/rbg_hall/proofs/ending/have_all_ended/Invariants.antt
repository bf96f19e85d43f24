-- The matches of the first tables have ended.
use Rattle.std.proofs.Common.{◌≡◌, ℕ, ◌<◌, get_or, true}
use Rattle.rbg_hall.specs.Tables.{TableState}
use Rattle.rbg_hall.specs.Serving.{has_ended}
use Rattle.rbg_hall.specs.internal.Parts.{states_of}
use Rattle.rbg_hall.proofs.ending.have_all_ended.Given as goal

abbrev pub invariant-loop-table : goal.invariant-loop-table
invariant-loop-table g l = (index : ℕ) (d : TableState) → index < l.table-index → has_ended (get_or (states_of l.tables) index d).begun ≡ true
