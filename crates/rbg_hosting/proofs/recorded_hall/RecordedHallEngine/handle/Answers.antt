-- The hall hears what comes in time, and then hands over what is to be handed over.
use Rattle.rbg_base.proofs.Common.{◌∙◌, ap, subst, sym}
use Rattle.rbg_hall.proofs.Common.{HallHears, HeldHall, hall_event}
use Rattle.rbg_script.specs.Events.{AbstractEvent, event_of}
use Rattle.rbg_hosting.specs.Moments.{later_event}
use Rattle.rbg_hosting.specs.declared.recorder.Recorder.{Recorder}
use Rattle.rbg_hosting.specs.internal.Recorded.{HandsOver}
use Rattle.rbg_hosting.proofs.StandingLemmas.{hall_stands}
use Rattle.rbg_hosting.proofs.recorded_hall.RecordedHallEngine.handle.Goals as goal

pub returns-clause-ok : goal.returns-clause-ok
returns-clause-ok g c =
    let event = later_event c.args.self.now.since (event_of c.args.event) in
    let hears : HallHears c.args.self.now.hall.state (hall_event event) c.handle.new.self.state c.args.outbox.now c.handle.new.outbox =
    subst (λ (one : AbstractEvent). HallHears c.args.self.now.hall.state (hall_event one) c.handle.new.self.state c.args.outbox.now c.handle.new.outbox)
    (c.later.ensures ∙ ap (λ since. later_event since (event_of c.args.event)) c.note_late.ensures.since)
    (subst (λ (one : HeldHall _). HallHears one.state (hall_event (event_of c.later.result)) c.handle.new.self.state c.args.outbox.now c.handle.new.outbox) c.note_late.ensures.hall
    c.in_ok-handle.ensures.ok.0.hears) in (
      hears,
      subst (λ (recorder : Recorder _). HandsOver g.A.Archive.handed recorder c.hand_over.new.self c.args.self.now.hall.state.tables c.handle.new.self.state.tables) c.note_late.ensures.recorder
          (c.hand_over.ensures c.args.self.now.hall.state.tables (hall_stands hears)),
      c.note_late.ensures.since,
    )
