-- A hall hears events in turn.
use Rattle.rbg_base.proofs.Common.{ℕ, ◌+◌, ◌<◌, List, [], ◌∷◌, ◌++◌, length, map, take, get_or, replicate, sym, ap, ◌∙◌, subst, append_assoc, map-append, take_more}
use Rattle.std.specs.Borrow.{Bor}
use Rattle.rbg_hall.proofs.TableCommon.{lines_in_all, told_to}
use Rattle.rbg_hall.proofs.Telling.{told_to-append, told_to-none}
use Rattle.rbg_hall.proofs.Common.{AbstractTable, HallState, HallHears, IsNewHall, HeldHall, HasRun, IsOfHall, IsAllowed}
use Rattle.rbg_script.specs.Events.{AbstractEvent, event_of}
use Rattle.rbg_script.specs.declared.event.Event.{Event}
use Rattle.rbg_hall.specs.Halls as halls
use Rattle.rbg_hall.proofs.Permitted.{run_is_allowed}

pub run_on : {starts : List AbstractTable} {events : List AbstractEvent} {event : AbstractEvent} {old new : HallState} {before after : List (List ℕ)} → HasRun starts events old before → HallHears old event new before after → HasRun starts (events ++ event ∷ []) new after
run_on run hears = record {
  told = run.told ++ hears.told;
  run = halls.more run.run hears.steps;
  queued = hears.queued ∙ ap (λ one. told_to one hears.told) run.queued ∙ told_to-append (replicate lines_in_all []) run.told hears.told;
}

pub one_heard : (starts : List AbstractTable) (earlier : List AbstractEvent) (events : List (Event (Bor (List ℕ)))) (index : ℕ) (read : Event (Bor (List ℕ))) (old new : HallState) (before after : List (List ℕ)) → index < length events → HasRun starts (earlier ++ map event_of (take index events)) old before → HallHears old (event_of (get_or events index read)) new before after → HasRun starts (earlier ++ map event_of (take (index + 1) events)) new after
one_heard starts earlier events index read old new before after within run hears =
    subst (λ all. HasRun starts all new after)
    (append_assoc earlier (map event_of (take index events)) (event_of (get_or events index read) ∷ [])
    ∙ ap (λ all. earlier ++ all) (sym (ap (map event_of) (take_more events index read within) ∙ map-append event_of (take index events) (get_or events index read ∷ []))))
    (run_on run hears)

pub new_run : {W : Type 0} (starts : List AbstractTable) (hall : HeldHall W) (queues : List (List ℕ)) → IsNewHall starts hall queues → HasRun starts [] hall.state queues
new_run starts hall queues made = record {
  told = [];
  run = subst (λ (state : HallState). halls.HallRun starts [] state []) (sym made.is) halls.none;
  queued = made.queued ∙ sym (told_to-none (replicate lines_in_all []));
}

pub run_allowed : {starts : List AbstractTable} {events : List AbstractEvent} {state : HallState} {queues : List (List ℕ)} → HasRun starts events state queues → IsAllowed starts events queues
run_allowed {starts} {events} {state} run = subst (IsAllowed starts events) (sym run.queued) (run_is_allowed starts events state run.told run.run)

pub of_hall : {W : Type 0} (starts : List AbstractTable) (events : List AbstractEvent) (made : HeldHall W) (state : HallState) (first queues : List (List ℕ)) → IsNewHall starts made first → HasRun starts ([] ++ events) state queues → IsOfHall starts events queues
of_hall starts events made state first queues new run = record { lawful = new.lawful; configs = new.configs; allowed = run_allowed run }
