use Rattle.rbg_record.proofs.MigratingLemmas.{form_line, never_over}
use Rattle.rbg_record.proofs.OneRecordLemmas.{migrated_right}
use Rattle.std.proofs.lemmas.Result.{IfOk-weaker}
use Rattle.rbg_record.proofs.migrating.migrate.Goals as goal

pub returns-clause-right : goal.returns-clause-right
returns-clause-right c = IfOk-weaker c.migrate_lines.result _ _ (λ new migrated. migrated_right c.args.game.now c.args.bytes.now new.items migrated) c.migrate_lines.ensures.migrated

pub returns-clause-form : goal.returns-clause-form
returns-clause-form c = λ line same. form_line c.args.bytes.now c.migrate_lines.result line same c.migrate_lines.ensures.refused

pub returns-clause-never_over : goal.returns-clause-never_over
returns-clause-never_over c = λ line same. never_over c.args.bytes.now c.migrate_lines.result line same c.migrate_lines.ensures.refused
