use Rattle.std.proofs.Common.{subst}
use Rattle.rbg_record.specs.declared.reached.Reached.{Reached as CodeReached}
use Rattle.rbg_record.proofs.Common.{IsReachedIn, reached_of}
use Rattle.rbg_record.proofs.EntryLemmas.{entry_read, no_entry}
use Rattle.rbg_record.proofs.reading.go_on.Goals as goal

pub returns-in_default : goal.returns-in_default
returns-in_default c = λ text says. no_entry c.args.reached.now text c.args.told.now c.in_default.not-Entry says

pub judge-requires : goal.judge-requires
judge-requires c = subst (λ (reached : CodeReached). IsReachedIn c.args.game.now (reached_of reached)) c.in-Entry.is c.requires

pub returns : goal.returns
returns c = λ text says.
    entry_read c.args.game.now c.args.reached.now c.in-Entry.match_so_far text c.args.told.now c.judge.result c.in-Entry.is says c.judge.ensures.leads c.judge.ensures.in_game c.judge.ensures.refused
