use Rattle.std.proofs.Common.{◌≡◌, ◌++◌, length, reverse}
use Rattle.rbg_hall.proofs.Common.{AreLoaded, HaveLimits, new_tables}
use Rattle.rbg_hall.proofs.opening.open_tables.Given as goal

abbrev pub invariant-loop-table : goal.invariant-loop-table
invariant-loop-table g l = record {
  loaded : AreLoaded l.tables.items;
  limits : HaveLimits l.tables.items;
  opened : new_tables l.initial.tables.items ≡ new_tables l.tables.items ++ reverse l.opened.items;
}

abbrev pub decreases-loop-table : goal.decreases-loop-table
decreases-loop-table g l = length l.tables.items
