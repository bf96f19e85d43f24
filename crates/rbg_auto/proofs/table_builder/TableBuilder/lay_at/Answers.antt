-- The proof of `table_builder::TableBuilder::lay_at`.
use Rattle.rbg_auto.proofs.BuildingLemmas.{IsKept-grows, IsSpan-grows}
use Rattle.rbg_auto.proofs.table_builder.TableBuilder.lay_at.Goals as goal

pub set-requires-clause-inside_within : goal.set-requires-clause-inside_within
set-requires-clause-inside_within c = IsSpan-grows c.args.self.now.table.entries.items c.keep.new.self.table.entries.items c.args.inside.first c.in_ok-next.ensures.adds.extends.entries c.requires.inside

pub returns-clause-lays : goal.returns-clause-lays
returns-clause-lays c = record { middle = c.keep.new.self.table; next = c.in_ok-next.next; adds = c.in_ok-next.ensures.adds; keeps = c.in_ok-next.ensures.keeps; sets = c.set.ensures }

pub returns-clause-kept : goal.returns-clause-kept
returns-clause-kept c = IsKept-grows c.keep.new.self.table.entries.items c.set.new.self.entries.items c.keep.new.kept c.args.rest.now.positions.items c.set.ensures.extends.entries c.in_ok-next.ensures.kept
