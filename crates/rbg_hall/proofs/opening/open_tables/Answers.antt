use Rattle.rbg_base.proofs.Common.{Some, All-pop}
use Rattle.rbg_game.specs.Loading.{Loads}
use Rattle.rbg_match.specs.Config.{IsWithinLimits}
use Rattle.rbg_hall.specs.declared.table.Table.{Table}
use Rattle.rbg_hall.proofs.Openings.{opened_one}
use Rattle.rbg_hall.proofs.opening.open_tables.Goals as goal

pub open_table-requires-clause-loaded : goal.open_table-requires-clause-loaded
open_table-requires-clause-loaded g c =
    (All-pop (λ (table : Table). Loads table.text.items table.game) c.loop-table.tables.items c.pop.new.self.items (Some c.in-Some.table) c.in-Some.ensures.items c.loop-table.invariant.loaded).1

pub open_table-requires-clause-limits : goal.open_table-requires-clause-limits
open_table-requires-clause-limits g c =
    (All-pop (λ (table : Table). IsWithinLimits table.config) c.loop-table.tables.items c.pop.new.self.items (Some c.in-Some.table) c.in-Some.ensures.items c.loop-table.invariant.limits).1

pub loop-table-preserved : goal.loop-table-preserved
loop-table-preserved g c = record {
  loaded = (All-pop (λ (table : Table). Loads table.text.items table.game) c.loop-table.tables.items c.pop.new.self.items (Some c.in-Some.table) c.in-Some.ensures.items c.loop-table.invariant.loaded).0;
  limits = (All-pop (λ (table : Table). IsWithinLimits table.config) c.loop-table.tables.items c.pop.new.self.items (Some c.in-Some.table) c.in-Some.ensures.items c.loop-table.invariant.limits).0;
  opened = opened_one c.args.tables.items c.loop-table.tables.items c.pop.new.self.items c.in-Some.table c.loop-table.opened.items c.push.new.self.items c.in_ok-open_table.field-0 c.loop-table.invariant.opened c.in-Some.ensures.items c.in_ok-push.ensures.items c.in_ok-open_table.ensures;
}
