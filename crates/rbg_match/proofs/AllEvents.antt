-- Events handled in turn: what is sent in all, and the streams after them.
use Rattle.std.proofs.Common.{◌≡◌, ℕ, List, [], ◌∷◌, ◌++◌, Option, Some, None, is_some, refl, sym, ap, ◌∙◌, subst, append_assoc}
use Rattle.std.proofs.lemmas.List.{append-nil}
use Rattle.rbg_wire.specs.declared.outcome.Outcome.{Outcome}
use Rattle.rbg_match.proofs.Common.{Delivery, delivered, AbstractEvent, Streams, streams_after, timed_inputs_in, timed_inputs_of, HandlesAll}
use Rattle.rbg_match.specs.Transcript as transcript
use Rattle.rbg_match.specs.Matches.{MatchState, Steps, StepsAll, none, more}
use Rattle.rbg_match.proofs.Delivering.{delivered-none}
use Rattle.rbg_match.proofs.Events.{handles-append}
use Rattle.rbg_match.proofs.Sayings.{said_more}
use Rattle.rbg_match.proofs.Stepping.{all_after_end}

-- the streams after a list of events
abbrev pub streams_through : Streams → List AbstractEvent → Streams
streams_through streams [] = streams
streams_through streams (event ∷ events) = streams_through (streams_after streams event) events

streams_through-more : (streams : Streams) (events : List AbstractEvent) (event : AbstractEvent) → streams_through streams (events ++ event ∷ []) ≡ streams_after (streams_through streams events) event
streams_through-more streams [] event = refl
streams_through-more streams (first ∷ events) event = streams_through-more (streams_after streams first) events event

-- the inputs of one more event
timed_inputs_of-more : (streams : Streams) (events : List AbstractEvent) (event : AbstractEvent) → timed_inputs_of streams (events ++ event ∷ []) ≡ timed_inputs_of streams events ++ timed_inputs_in (streams_through streams events) event
timed_inputs_of-more streams [] event = append-nil (timed_inputs_in streams event)
timed_inputs_of-more streams (first ∷ events) event =
    ap (λ next. timed_inputs_in streams first ++ next) (timed_inputs_of-more (streams_after streams first) events event)
    ∙ sym (append_assoc (timed_inputs_in streams first) (timed_inputs_of (streams_after streams first) events) (timed_inputs_in (streams_through (streams_after streams first) events) event))

-- The inputs that these events mean are handled in turn. While the match lasts, its streams are those after them.
pub record HasHandled (old : MatchState) (before : List (List ℕ)) (events : List AbstractEvent) (new : MatchState) (after : List (List ℕ)) : Type 0 where
  pub same_game : new.game ≡ old.game
  pub same_config : new.config ≡ old.config
  pub outgoing : List Delivery
  pub handles : HandlesAll old.game old.config old.play (timed_inputs_of old.streams events) new.play outgoing
  pub told : after ≡ delivered before outgoing
  pub streams : new.play.outcome ≡ None → new.streams ≡ streams_through old.streams events

module _ (old : MatchState) (before : List (List ℕ)) (events : List AbstractEvent) (middle : MatchState) (between : List (List ℕ)) (event : AbstractEvent) (new : MatchState) (after : List (List ℕ)) (handled : HasHandled old before events middle between) (step : Steps middle event new between after) where
  -- the inputs that the next event means, in a match that has not ended
  next_handled : middle.play.outcome ≡ None → HandlesAll old.game old.config middle.play (timed_inputs_in (streams_through old.streams events) event) new.play step.outgoing
  next_handled going =
      let in_game = subst (λ game. HandlesAll game middle.config middle.play (timed_inputs_in middle.streams event) new.play step.outgoing) handled.same_game step.handles in
      let with_config = subst (λ config. HandlesAll old.game config middle.play (timed_inputs_in middle.streams event) new.play step.outgoing) handled.same_config in_game in
      subst (λ streams. HandlesAll old.game old.config middle.play (timed_inputs_in streams event) new.play step.outgoing) (handled.streams going) with_config

  one_more_handled : (outcome : Option Outcome) → middle.play.outcome ≡ outcome → HasHandled old before (events ++ event ∷ []) new after
  one_more_handled None going = record {
    same_game = step.same_game ∙ handled.same_game;
    same_config = step.same_config ∙ handled.same_config;
    outgoing = handled.outgoing ++ step.outgoing;
    handles = rw (timed_inputs_of-more old.streams events event) (handles-append handled.handles (next_handled going));
    told = said_more before handled.outgoing step.outgoing handled.told step.told;
    streams = λ goes_on. step.streams goes_on ∙ ap (λ streams. streams_after streams event) (handled.streams going) ∙ sym (streams_through-more old.streams events event);
  }
  one_more_handled (Some outcome) ended =
      let stays = step.stays outcome ended in
      let silent = all_after_end old.game old.config middle.play (ap is_some ended) (timed_inputs_in (streams_through old.streams events) event) in
      let handles : HandlesAll old.game old.config old.play (timed_inputs_of old.streams events ++ timed_inputs_in (streams_through old.streams events) event) middle.play handled.outgoing = rw append-nil at (handles-append handled.handles silent) in
      record {
        same_game = step.same_game ∙ handled.same_game;
        same_config = step.same_config ∙ handled.same_config;
        outgoing = handled.outgoing;
        handles = rw (timed_inputs_of-more old.streams events event) (subst (λ (state : MatchState). HandlesAll old.game old.config old.play (timed_inputs_of old.streams events ++ timed_inputs_in (streams_through old.streams events) event) state.play handled.outgoing) (sym stays) handles);
        told = step.silent outcome ended ∙ handled.told;
        streams = λ goes_on. absurd (let both : ◌≡◌ {A = Option Outcome} None (Some outcome) = sym goes_on ∙ ap (λ (state : MatchState). state.play.outcome) stays ∙ ended in cc);
      }

pub all_handled : {old : MatchState} {before : List (List ℕ)} {events : List AbstractEvent} {new : MatchState} {after : List (List ℕ)} → StepsAll old before events new after → HasHandled old before events new after
all_handled {old} {before} none = record {
  same_game = refl;
  same_config = refl;
  outgoing = [];
  handles = transcript.none;
  told = sym (delivered-none before);
  streams = λ goes_on. refl;
}
all_handled {old} {before} (more {events = events} {event = event} {middle = middle} {new = new} {between = between} {after = after} steps step) = one_more_handled old before events middle between event new after (all_handled steps) step middle.play.outcome refl
