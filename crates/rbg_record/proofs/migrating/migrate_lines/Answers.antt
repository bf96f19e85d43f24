use Rattle.std.proofs.Common.{refl}
use Rattle.rbg_base.proofs.Errors.{passed_on}
use Rattle.rbg_record.specs.declared.next.Next.TheVariants as nexts
use Rattle.rbg_record.proofs.Stopping.{read_more, read_none}
use Rattle.rbg_record.specs.declared.error.RecordError.TheVariants.{Form}
use Rattle.rbg_record.specs.Migration as migration
use Rattle.rbg_record.proofs.MatchSpelled.{players_named}
use Rattle.rbg_record.proofs.MigratingLemmas.{migrate_one, migrated_whole, migrating_refused, migrating_stops}
use Rattle.rbg_record.proofs.migrating.migrate_lines.Goals as goal

pub loop-out-init : goal.loop-out-init
loop-out-init c =
    read_none c.args.bytes.now (nexts.Version, c.new-out.result.items) _ c.new-reader.ensures
    (record { plain = tt; lead = migration.none; told = (refl, c.new-out.ensures.items) })

pub returns-in_err-line-clause-refused : goal.returns-in_err-line-clause-refused
returns-in_err-line-clause-refused c =
    passed_on c.from_residual.result (Form c.in_err-line.field-0.0.line) _ c.from_residual.ensures.1
    (migrating_stops c.loop-out.invariant c.in_err-line.field-0.0 _ refl c.in_err-line.ensures.fault)

pub migrate_line-requires-clause-plain : goal.migrate_line-requires-clause-plain
migrate_line-requires-clause-plain c = c.loop-out.invariant.leads.plain

pub migrate_line-requires-clause-says : goal.migrate_line-requires-clause-says
migrate_line-requires-clause-says c =
    let takes = rw c.in-Some.is at c.in_ok-line.ensures.line in
    takes.says

pub returns-in_err-next-clause-refused : goal.returns-in_err-next-clause-refused
returns-in_err-next-clause-refused c =
    let takes = rw c.in-Some.is at c.in_ok-line.ensures.line in
    passed_on c.from_residual-in_err-next.result c.in_err-next.field-0.0 _ c.from_residual-in_err-next.ensures.1
    (migrating_refused c.loop-out.invariant c.in-Some.line c.in_err-next.field-0.0 takes c.in_err-next.ensures.refused)

pub loop-out-preserved : goal.loop-out-preserved
loop-out-preserved c =
    let takes = rw c.in-Some.is at c.in_ok-line.ensures.line in
    read_more c.loop-out.invariant takes.first takes.later
    (λ texts migrated. migrate_one c.args.game.now texts c.in-Some.line.text.now c.loop-out.next c.in_ok-next.next c.loop-out.out.items c.migrate_line.new.out.items c.in_ok-next.ensures.migrates migrated)

pub returns-clause-migrated : goal.returns-clause-migrated
returns-clause-migrated c =
    migrated_whole c.args.game.now c.args.bytes.now c.loop-out.next c.loop-out.out.items _ (players_named c.args.game.now c.is_accepted.ensures) c.loop-out.invariant (rw c.in_default.is at c.in_ok-line.ensures.over)
