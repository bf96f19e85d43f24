-- The lines tell nothing but their failures, and the clock was not asked before.
use Rattle.std.proofs.Common.{[]}
use Rattle.rbg_hosting.proofs.RecordLemmas.{all_tell}
use Rattle.rbg_hosting.proofs.RecordedLemmas.{archived_so, archived_until, ended_so, is_stopped}
use Rattle.rbg_hosting.proofs.serving.run_hall.Goals as goal

pub returns-in-Ok-clause-ended : goal.returns-in-Ok-clause-ended
returns-in-Ok-clause-ended g c starts past run =
    let over = c.in-Ok.ensures.serves _ [] (all_tell _ _ (λ line so_far. tt {0}) c.args.lines.now) c.requires.clock in
    ended_so run over.serves

pub returns-in-Ok-clause-archived : goal.returns-in-Ok-clause-archived
returns-in-Ok-clause-archived g c starts matches past since so_far =
    let over = c.in-Ok.ensures.serves _ [] (all_tell _ _ (λ line so_far. tt {0}) c.args.lines.now) c.requires.clock in
    archived_so _ since so_far over.clock_tells over.serves

pub returns-in-Err-clause-archived : goal.returns-in-Err-clause-archived
returns-in-Err-clause-archived g c starts matches past since so_far =
    let over = c.in-Err.ensures.serves _ [] (all_tell _ _ (λ line so_far. tt {0}) c.args.lines.now) c.requires.clock in
    is_stopped c.fault_of.result (archived_until _ c.in-Err.error since so_far over.clock_tells over.serves) c.fault_of.ensures
