-- Events are handled in turn, until one of them is refused.
use Rattle.rbg_base.proofs.Common.{◌≡◌, ℕ, ◌+◌, ◌<◌, true, false, List, length, map, take, get_or, Option, Some, None, Result, Ok, Err, Bool, refl, sym, ap, ◌∙◌, is_err, IsOk, OnOk, OnErr, map_more, take-map}
use Rattle.std.specs.Borrow.{Bor}
use Rattle.std.proofs.lemmas.Bool.{true≢false, false≢true}
use Rattle.rbg_wire.specs.declared.outcome.Outcome.{Outcome}
use Rattle.rbg_script.specs.declared.event.Event.{Event}
use Rattle.rbg_match.proofs.Common.{seats_of, MatchState, Steps, StepsAll, more}
use Rattle.rbg_script.specs.Events.{AbstractEvent, event_of}
use Rattle.rbg_match.proofs.Delivering.{length-delivered}

-- what a call that handles whether it was refused leaves
pub at_ok : {T E P : Type 0} (result : Result T E) (refused : Bool) → refused ≡ is_err result → refused ≡ false → OnOk result P → P
at_ok (Ok value) refused test is holds = holds
at_ok (Err error) refused test is holds = absurd (true≢false (sym test ∙ is))

pub at_err : {T E P : Type 0} (result : Result T E) (refused : Bool) → refused ≡ is_err result → refused ≡ true → OnErr result P → P
at_err (Ok value) refused test is holds = absurd (false≢true (sym test ∙ is))
at_err (Err error) refused test is holds = holds

-- a call that was refused was not `Ok`
pub at_err_not_ok : {T E : Type 0} (result : Result T E) (refused : Bool) → refused ≡ is_err result → refused ≡ true → ¬ IsOk result
at_err_not_ok (Ok value) refused test is ok = false≢true (sym test ∙ is)
at_err_not_ok (Err error) refused test is ok = false≢true ok

-- what is no outcome
pub no_outcome : (outcome : Option Outcome) → ((one : Outcome) → outcome ≡ Some one → ⊥) → outcome ≡ None
no_outcome None never = refl
no_outcome (Some one) never = absurd (never one refl)

-- the events so far, and one more
pub one_more_step : {old middle new : MatchState} {before between after : List (List ℕ)} (events : List (Event (Bor (List ℕ)))) (done : ℕ) (d : Event (Bor (List ℕ))) → done < length events → StepsAll old before (map event_of (take done events)) middle between → Steps middle (event_of (get_or events done d)) new between after → StepsAll old before (map event_of (take (done + 1) events)) new after
one_more_step events done d within steps step = rw (map_more event_of events done d within) (more steps step)

-- the events so far were handled
pub taken_whole : {old middle : MatchState} {before between : List (List ℕ)} (events : List (Event (Bor (List ℕ)))) (done : ℕ) (after : List (List ℕ)) → StepsAll old before (map event_of (take done events)) middle between → after ≡ between → StepsAll old before (take done (map event_of events)) middle after
taken_whole {old} {middle} {before} events done after steps same = rw (take-map event_of done events, same) steps

-- a step keeps an outbox of the match's seats
pub seats_kept : {middle new : MatchState} {event : AbstractEvent} {between after : List (List ℕ)} → Steps middle event new between after → length between ≡ seats_of middle.game → length after ≡ seats_of new.game
seats_kept {between = between} step same = ap length step.told ∙ length-delivered between step.outgoing ∙ same ∙ ap seats_of (sym step.same_game)
