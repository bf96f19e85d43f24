-- Version 1 is migrated.
use Rattle.rbg_record.specs.declared.next.Next.TheVariants as nexts
use Rattle.rbg_record.proofs.MigratingLemmas.{version_migrates}
use Rattle.rbg_record.proofs.migrating.begin.Goals as goal

pub returns-in_ok-write_head-in-One-clause-migrates : goal.returns-in_ok-write_head-in-One-clause-migrates
returns-in_ok-write_head-in-One-clause-migrates c = λ text is.
    version_migrates c.args.game.now nexts.Version text c.args.version c.args.out.now.items _ c.in-One.is is c.in_ok-write_head-in-One.ensures
