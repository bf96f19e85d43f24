-- One more table is made, or its description is refused.
use Rattle.std.proofs.Common.{subst, rules}
use Rattle.rbg_hall.specs.Openings.{start_of, starts_of}
use Rattle.rbg_hosting.specs.Tables.{IsTableOf}
use Rattle.rbg_hosting.specs.internal.Loading.{IsNotTable}
use Rattle.rbg_hosting.proofs.TableLemmas.{no_tables, not_loaded, one_more_loaded, one_more_table}
use Rattle.rbg_hosting.proofs.tables.tables_of.Goals as goal

pub loop-description-init : goal.loop-description-init
loop-description-init c =
    let both = no_tables c.args.config c.new-tables.result.items c.new-tables.ensures.items in
    record { are = both.0; loaded = both.1 }

pub returns-in-Err-clause-refused : goal.returns-in-Err-clause-refused
returns-in-Err-clause-refused c =
    not_loaded c.args.config c.args.descriptions.now c.loop-description.description-index c.description-item.result (starts_of c.loop-description.tables.items)
    (search rules) c.description-item.is c.loop-description.invariant.are c.in-Err.error
    (subst (λ text. IsNotTable text c.in-Err.error) c.as_slice.ensures.value c.in-Err.ensures.refused)

pub loop-description-preserved : goal.loop-description-preserved
loop-description-preserved c =
    let config = c.args.config in
    let table = c.in-Ok.table in
    let description = c.description-item.result in
    let one : IsTableOf config description.items (start_of table) = subst (λ text. IsTableOf config text (start_of table)) c.as_slice.ensures.value c.in-Ok.ensures.table in
    record {
      are = one_more_table config c.args.descriptions.now c.loop-description.description-index description c.loop-description.tables.items c.add.new.tables.items table (search rules) c.description-item.is c.loop-description.invariant.are one c.in_ok-add-in-Ok.ensures.added;
      loaded = one_more_loaded config description.items c.loop-description.tables.items c.add.new.tables.items table c.loop-description.invariant.loaded one c.in_ok-add-in-Ok.ensures.added;
    }
