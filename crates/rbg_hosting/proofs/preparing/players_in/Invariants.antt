-- The players of the first tables.
use Rattle.std.proofs.Common.{◌≡◌, map, take}
use Rattle.rbg_hall.specs.declared.table.Table.{Table}
use Rattle.rbg_match.specs.PlayingOn.{seats_of}
use Rattle.rbg_hosting.proofs.preparing.players_in.Given as goal

abbrev pub invariant-loop-table : goal.invariant-loop-table
invariant-loop-table l = l.players.items ≡ map (λ (table : Table). seats_of table.game) (take l.table-index l.tables)
