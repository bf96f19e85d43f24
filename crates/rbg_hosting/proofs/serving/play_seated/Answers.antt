-- The hall goes on from the moment that is found, or nobody has come.
use Rattle.rbg_base.proofs.Common.{◌∙◌, inl, length, subst, sym}
use Rattle.rbg_hall.proofs.Common.{HasRun, HeldHall}
use Rattle.rbg_hosting.specs.Moments.{IsSince}
use Rattle.rbg_hosting.proofs.AnswerLemmas.{on_ok}
use Rattle.rbg_hosting.proofs.RecordedLemmas.{heard_again, is_stopped, unheard_so}
use Rattle.rbg_hosting.proofs.serving.play_seated.Goals as goal

pub returns-in-Ok-clause-ended : goal.returns-in-Ok-clause-ended
returns-in-Ok-clause-ended g c =
    on_ok c.run_hall-served.result
    (λ over starts past run. over starts past (subst (λ (one : HeldHall _). HasRun starts past one.state c.args.out.now) (sym c.go_on_from.ensures.hall) run))
    c.run_hall-served.ensures.ended

pub returns-in-Ok-clause-archived : goal.returns-in-Ok-clause-archived
returns-in-Ok-clause-archived g c starts matches past many so_far =
    let after = c.go_on_from.new.self in
    c.run_hall-served.ensures.archived starts matches past
    (subst (λ since. IsSince after.hall.state.tables (length starts) since) (sym c.go_on_from.ensures.since)
    (subst (λ n. IsSince after.hall.state.tables n c.since_of-since.result) (sym many)
    (subst (λ (one : HeldHall _). IsSince one.state.tables (length c.args.going.players.now) c.since_of-since.result) (c.hall.ensures ∙ sym c.go_on_from.ensures.hall) c.since_of-since.ensures)))
    (heard_again c.args.recorded.now after c.go_on_from.ensures.hall c.go_on_from.ensures.recorder so_far)

pub returns-in-Err-clause-archived : goal.returns-in-Err-clause-archived
returns-in-Err-clause-archived g c starts matches past many so_far =
    is_stopped c.fault_after.result
    (unheard_so (heard_again c.args.recorded.now c.go_on_from.new.self c.go_on_from.ensures.hall c.go_on_from.ensures.recorder so_far))
    (λ lost. inl (c.fault_after.ensures lost))
