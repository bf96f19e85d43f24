-- The hall hears its logs, and then what comes.
use Rattle.rbg_base.proofs.Common.{[], inl, subst, sym}
use Rattle.rbg_hall.specs.Wholes.{HasRun}
use Rattle.rbg_hosting.proofs.AnswerLemmas.{on_ok}
use Rattle.rbg_hosting.proofs.PastLemmas.{stopped_past}
use Rattle.rbg_hosting.proofs.RecordedLemmas.{has_run, is_stopped}
use Rattle.rbg_hosting.specs.declared.recorded_hall.RecordedHall.{RecordedHall}
use Rattle.rbg_hosting.proofs.going_on.go_on.Goals as goal

pub returns-in-Ok-clause-new_ended : goal.returns-in-Ok-clause-new_ended
returns-in-Ok-clause-new_ended g c none =
    let unheard = c.replay_all.ensures.nothing none in
    on_ok c.play_seated.result
    (λ over starts past run. over starts past
    (subst (λ queues. HasRun starts past c.replay_all.new.recorded.hall.state queues) (sym unheard.1)
    (subst (λ (one : RecordedHall _ _). HasRun starts past one.hall.state c.args.out.now) (sym unheard.0) run)))
    c.play_seated.ensures.ended

pub returns-in-Ok-clause-ended : goal.returns-in-Ok-clause-ended
returns-in-Ok-clause-ended g c =
    on_ok c.play_seated.result (λ over starts matches first. over starts _ (has_run (c.in-Ok.ensures.hears starts matches [] first).run)) c.play_seated.ensures.ended

pub returns-in-Ok-clause-archived : goal.returns-in-Ok-clause-archived
returns-in-Ok-clause-archived g c starts matches many first = c.play_seated.ensures.archived starts matches _ many (c.in-Ok.ensures.hears starts matches [] first)

pub returns-in-Err-clause-archived : goal.returns-in-Err-clause-archived
returns-in-Err-clause-archived g c starts matches many first =
    is_stopped c.fault_after.result (stopped_past (c.in-Err.ensures.hears starts matches [] first)) (λ lost. inl (c.fault_after.ensures lost))
