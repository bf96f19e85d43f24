-- Each line is migrated, or none of version 1.
use Rattle.std.proofs.Common.{refl}
use Rattle.rbg_record.proofs.MigratingLemmas.{entry_migrates, no_players, no_start, version_line, version_refused}
use Rattle.rbg_record.proofs.migrating.migrate_line.Goals as goal

pub returns-in-Version-clause-migrates : goal.returns-in-Version-clause-migrates
returns-in-Version-clause-migrates c =
    version_line c.args.game.now c.args.next c.args.line.now.text.now _ c.args.out.now.items _ c.begin.result (rw c.in-Version.is at c.requires.says) c.begin.ensures.migrates

pub returns-in-Version-clause-refused : goal.returns-in-Version-clause-refused
returns-in-Version-clause-refused c = version_refused c.args.line.now _ c.begin.result c.in-Version.is c.begin.ensures.refused

pub returns-in_ok-write_entry-in-Entry-clause-migrates : goal.returns-in_ok-write_entry-in-Entry-clause-migrates
returns-in_ok-write_entry-in-Entry-clause-migrates c =
    entry_migrates c.args.game.now c.args.next c.args.line.now.text.now _ _ c.args.out.now.items _ c.requires.plain (rw c.in-Entry.is at c.requires.says) c.in_ok-write_entry-in-Entry.ensures c.after.ensures

pub returns-in-Players-clause-refused : goal.returns-in-Players-clause-refused
returns-in-Players-clause-refused c = (refl, λ next plain says form. no_players next c.args.line.now.text.now _ plain (rw c.in-Players.is at says))

pub returns-in-Start-clause-refused : goal.returns-in-Start-clause-refused
returns-in-Start-clause-refused c = (refl, λ next plain says form. no_start next c.args.line.now.text.now _ plain (rw c.in-Start.is at says))
