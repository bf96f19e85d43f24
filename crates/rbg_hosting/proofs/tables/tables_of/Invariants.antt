-- There is a table for each of the first descriptions.
use Rattle.std.proofs.Common.{take}
use Rattle.rbg_hall.specs.Openings.{AreLoaded, starts_of}
use Rattle.rbg_hosting.specs.Tables.{AreTablesOf, texts_of}
use Rattle.rbg_hosting.proofs.tables.tables_of.Given as goal

abbrev pub invariant-loop-description : goal.invariant-loop-description
invariant-loop-description l = record {
  are : AreTablesOf l.config (texts_of (take l.description-index l.descriptions)) (starts_of l.tables.items);
  loaded : AreLoaded l.tables.items;
}
