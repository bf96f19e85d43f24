-- The tables so far are those of their games.
use Rattle.rbg_hall.specs.Openings.{AreLoaded}
use Rattle.rbg_test_parts.proofs.tables.tables.Given as goal

abbrev pub invariant-loop-config : goal.invariant-loop-config
invariant-loop-config l = AreLoaded l.tables.items
