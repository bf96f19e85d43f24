-- The logs of the first tables have not failed.
use Rattle.std.proofs.Common.{◌≡◌, ℕ, ◌<◌, get_or}
use Rattle.rbg_hall.specs.declared.standing.Standing.{Standing}
use Rattle.rbg_hall.specs.declared.standing.Standing.TheVariants.{LogFailed}
use Rattle.rbg_hall.proofs.Logs.{standings_of}
use Rattle.rbg_hall.proofs.ending.has_log_failed.Given as goal

abbrev pub invariant-loop-table : goal.invariant-loop-table
invariant-loop-table g l = (index : ℕ) (d : Standing) → index < l.table-index → ¬ (get_or (standings_of l.tables) index d ≡ LogFailed)
