-- The events that are written lead a match to where all events do.
use Rattle.rbg_base.proofs.Common.{◌≡◌, ℕ, ◌<◌, ◌≤◌, true, false, Bool, List, [], ◌∷◌, ◌++◌, is_some, Option, Some, None, refl, sym, ap, ◌∙◌, subst, arith, append-nil, max, min, if◌then◌else◌, none-some}
use Rattle.std.proofs.lemmas.Bool.{ltb-true, false≢true}
use Rattle.rbg_wire.specs.Streams.{Rest}
use Rattle.rbg_wire.specs.declared.outcome.Outcome.{Outcome}
use Rattle.rbg_rules.specs.Meaning.{AbstractGame}
use Rattle.rbg_match.specs.declared.config.Config.{Config}
use Rattle.rbg_match.proofs.Common.{Delivery, delivered, tick, HandlesInTime, Handles, Streams, counted, inputs_in, inputs_at, rests_after, streams_after, timed_inputs_in, latest_moment, MatchState, Opens, Steps, StepsAll, AbstractPlay, due_of, HandlesAll}
use Rattle.rbg_script.specs.Events.{AbstractEvent, piece, end_of_stream, moment_alone, moment_of}
use Rattle.rbg_match.specs.Handling as handling
use Rattle.rbg_match.specs.Matches as matches
use Rattle.rbg_match.proofs.Delivering.{delivered-none}
use Rattle.rbg_match.proofs.OneByOne.{HandlesEach, none, more, all_to_each}
use Rattle.rbg_serving.specs.Laws.{WrittenIsEnough}
use Rattle.rbg_serving.specs.Written.{at_moment, is_quiet, written, Writes, Replays}
use Rattle.rbg_serving.specs.Written as writing

-- a tick before the due moment does nothing
in_time : {game : AbstractGame} {config : Config} {play : AbstractPlay} {moment : ℕ} {after : AbstractPlay} {outgoing : List Delivery} → HandlesInTime game config play moment tick after outgoing → (after ≡ play) × (outgoing ≡ [])
in_time handling.nothing = (refl, refl)

early_tick : {game : AbstractGame} {config : Config} {play : AbstractPlay} {moment : ℕ} {after : AbstractPlay} {outgoing : List Delivery} → moment < due_of config play → Handles game config play moment tick after outgoing → (after ≡ play) × (outgoing ≡ [])
early_tick early (handling.after_end ended) = (refl, refl)
early_tick early (handling.overdue going late) = absurd (omega (arith, early, late))
early_tick early (handling.in_time going before handles) = in_time handles

one_tick : {game : AbstractGame} {config : Config} {play : AbstractPlay} {moment : ℕ} {after : AbstractPlay} {outgoing : List Delivery} → moment < due_of config play → HandlesEach game config play (record { moment = moment; input = tick } ∷ []) after outgoing → (after ≡ play) × (outgoing ≡ [])
one_tick early (more {first = first} handles none) =
    let nothing = early_tick early handles in
    (nothing.0, ap (λ (one : List Delivery). one ++ []) nothing.1)

-- a match with another greatest moment
abbrev at_time : MatchState → (moment : ℕ) → MatchState
at_time state moment = record state { streams = record state.streams { moment = moment } }

-- the counted moment of an event stays within the limit, and isn't counted anew
counts_up : (moment at : ℕ) → moment ≤ latest_moment → (moment ≤ max moment (min at latest_moment)) × (max moment (min at latest_moment) ≤ latest_moment)
counts_up moment at small = (omega (arith, small), omega (arith, small))

counts_again : (earlier moment at : ℕ) → earlier ≤ moment → moment ≤ latest_moment → max earlier (min (max moment (min at latest_moment)) latest_moment) ≡ max moment (min at latest_moment)
counts_again earlier moment at before small = omega (arith, before, small)

module _ (earlier moment : ℕ) (rests : List Rest) (before : earlier ≤ moment) (small : moment ≤ latest_moment) where
  abbrev was : Streams
  was = record { moment = earlier; rests = rests }

  abbrev is_now : Streams
  is_now = record { moment = moment; rests = rests }

  same_moment : (event : AbstractEvent) → counted was (moment_of (at_moment (counted is_now (moment_of event)) event)) ≡ counted is_now (moment_of event)
  same_moment (piece seat at bytes) = counts_again earlier moment at before small
  same_moment (end_of_stream seat at) = counts_again earlier moment at before small
  same_moment (moment_alone at) = counts_again earlier moment at before small

  same_inputs : (event : AbstractEvent) → timed_inputs_in was (at_moment (counted is_now (moment_of event)) event) ≡ timed_inputs_in is_now event
  same_inputs (piece seat at bytes) = ap (λ (one : ℕ). inputs_at one (inputs_in rests (piece seat at bytes))) (same_moment (piece seat at bytes))
  same_inputs (end_of_stream seat at) = ap (λ (one : ℕ). inputs_at one (inputs_in rests (end_of_stream seat at))) (same_moment (end_of_stream seat at))
  same_inputs (moment_alone at) = ap (λ (one : ℕ). inputs_at one (inputs_in rests (moment_alone at))) (same_moment (moment_alone at))

  same_streams : (event : AbstractEvent) → streams_after was (at_moment (counted is_now (moment_of event)) event) ≡ streams_after is_now event
  same_streams (piece seat at bytes) = λ i. record { moment = same_moment (piece seat at bytes) i; rests = rests_after rests (piece seat at bytes) }
  same_streams (end_of_stream seat at) = λ i. record { moment = same_moment (end_of_stream seat at) i; rests = rests }
  same_streams (moment_alone at) = λ i. record { moment = same_moment (moment_alone at) i; rests = rests }

-- the event at its counted moment does the same in a match that stands there at an earlier moment
written_step : (state new : MatchState) (event : AbstractEvent) (before after : List (List ℕ)) (earlier : ℕ) → earlier ≤ state.streams.moment → state.streams.moment ≤ latest_moment → state.play.outcome ≡ None → Steps state event new before after → Steps (at_time state earlier) (at_moment (counted state.streams (moment_of event)) event) new before after
written_step state new event before after earlier beyond small going step = record {
  worked = step.worked;
  works = step.works;
  same_game = step.same_game;
  same_config = step.same_config;
  same_begin = step.same_begin;
  outgoing = step.outgoing;
  handles = subst (λ inputs. HandlesAll state.game state.config state.play inputs new.play step.outgoing) (sym (same_inputs earlier state.streams.moment state.streams.rests beyond small event)) step.handles;
  told = step.told;
  moment = λ _. step.moment going ∙ sym (same_moment earlier state.streams.moment state.streams.rests beyond small event);
  streams = λ goes_on. step.streams goes_on ∙ sym (same_streams earlier state.streams.moment state.streams.rests beyond small event);
  stays = λ outcome ended. absurd (none-some outcome (sym going ∙ ended));
  silent = λ outcome ended. absurd (none-some outcome (sym going ∙ ended));
}

-- a moment alone before the due moment changes the greatest moment alone
record IsQuietStep (state new : MatchState) (at : ℕ) (before after : List (List ℕ)) : Type 0 where
  is : new ≡ at_time state (counted state.streams at)
  silent : after ≡ before

quiet_step : (state new : MatchState) (at : ℕ) (before after : List (List ℕ)) → state.play.outcome ≡ None → counted state.streams at < due_of state.config state.play → Steps state (moment_alone at) new before after → IsQuietStep state new at before after
quiet_step state new at before after going early step =
    let nothing = one_tick {game = state.game} {config = state.config} early (all_to_each step.handles) in
    let on : new.play.outcome ≡ None = ap (λ (play : AbstractPlay). play.outcome) nothing.0 ∙ going in
    let streams = step.streams on in
    let works = step.works ∙ sym step.worked in
    record {
      is = λ i. record {
        game = step.same_game i;
        config = step.same_config i;
        began = step.same_begin i;
        play = nothing.0 i;
        streams = streams i;
        failed = works i;
      };
      silent = step.told ∙ ap (λ (outgoing : List Delivery). delivered before outgoing) nothing.1 ∙ delivered-none before;
    }

-- a match with its events so far, as those that were written lead there
pub record Stands (opened : MatchState) (greeted : List (List ℕ)) (lines : List AbstractEvent) (state : MatchState) (queued : List (List ℕ)) : Type 0 where
  pub replayed : MatchState
  pub steps : StepsAll opened greeted lines replayed queued
  pub replays : Replays replayed state
  pub small : state.streams.moment ≤ latest_moment

module _ (opened : MatchState) (greeted : List (List ℕ)) (lines : List AbstractEvent) (state : MatchState) (queued : List (List ℕ)) (stands : Stands opened greeted lines state queued) where
  -- nothing is written, and nothing happens
  unwritten : (new : MatchState) (after : List (List ℕ)) → (moment : ℕ) → state.streams.moment ≤ moment → moment ≤ latest_moment → new ≡ at_time state moment → after ≡ queued → ((outcome : Outcome) → state.play.outcome ≡ Some outcome → moment ≡ state.streams.moment) → Stands opened greeted (lines ++ []) new after
  unwritten new after moment later small is silent kept =
      let there : Stands opened greeted lines (at_time state moment) queued = record {
        replayed = stands.replayed;
        steps = stands.steps;
        replays = record {
          same = stands.replays.same;
          earlier = omega (arith, later, stands.replays.earlier);
          ended = λ outcome ended. stands.replays.ended outcome ended ∙ ap (λ (one : ℕ). at_time state one) (sym (kept outcome ended));
        };
        small = small;
      } in
      subst (λ (one : List AbstractEvent). Stands opened greeted one new after) (sym (append-nil lines))
      (subst (λ (box : List (List ℕ)). Stands opened greeted lines new box) (sym silent)
      (subst (λ (one : MatchState). Stands opened greeted lines one queued) (sym is) there))

  -- an event is written
  one_written : (new : MatchState) (event : AbstractEvent) (after : List (List ℕ)) → state.play.outcome ≡ None → Steps state event new queued after → Stands opened greeted (lines ++ at_moment (counted state.streams (moment_of event)) event ∷ []) new after
  one_written new event after going step =
      let same : at_time state stands.replayed.streams.moment ≡ stands.replayed = sym stands.replays.same in
      let next = written_step state new event queued after stands.replayed.streams.moment stands.replays.earlier stands.small going step in
      let again = subst (λ (one : MatchState). Steps one (at_moment (counted state.streams (moment_of event)) event) new queued after) same next in
      record {
        replayed = new;
        steps = matches.more stands.steps again;
        replays = record { same = refl; earlier = omega arith; ended = λ outcome ended. refl };
        small = subst (λ (one : ℕ). one ≤ latest_moment) (sym (step.moment going)) (counts_up state.streams.moment (moment_of event) stands.small).1;
      }

  quiet_unwritten : (new : MatchState) (event : AbstractEvent) (after : List (List ℕ)) → state.play.outcome ≡ None → is_quiet state event ≡ true → Steps state event new queued after → Stands opened greeted (lines ++ []) new after
  quiet_unwritten new (piece seat at bytes) after going quiet step = absurd (false≢true quiet)
  quiet_unwritten new (end_of_stream seat at) after going quiet step = absurd (false≢true quiet)
  quiet_unwritten new (moment_alone at) after going quiet step =
      let nothing = quiet_step state new at queued after going (ltb-true _ _ quiet) step in
      let up = counts_up state.streams.moment at stands.small in
      unwritten new after (counted state.streams at) up.0 up.1 nothing.is nothing.silent (λ outcome ended. absurd (none-some outcome (sym going ∙ ended)))

  in_play : (new : MatchState) (event : AbstractEvent) (after : List (List ℕ)) (quiet : Bool) → state.play.outcome ≡ None → is_quiet state event ≡ quiet → Steps state event new queued after → Stands opened greeted (lines ++ (if quiet then [] else at_moment (counted state.streams (moment_of event)) event ∷ [])) new after
  in_play new event after true going quiet step = quiet_unwritten new event after going quiet step
  in_play new event after false going quiet step = one_written new event after going step

  at_outcome : (new : MatchState) (event : AbstractEvent) (after : List (List ℕ)) (outcome : Option Outcome) → state.play.outcome ≡ outcome → Steps state event new queued after → Stands opened greeted (lines ++ (if is_some outcome then [] else if is_quiet state event then [] else at_moment (counted state.streams (moment_of event)) event ∷ [])) new after
  at_outcome new event after None going step = in_play new event after (is_quiet state event) going refl step
  at_outcome new event after (Some outcome) ended step =
      unwritten new after state.streams.moment (omega arith) stands.small (step.stays outcome ended) (step.silent outcome ended) (λ _ _. refl)

  pub stands_on : (new : MatchState) (event : AbstractEvent) (after : List (List ℕ)) → Steps state event new queued after → Stands opened greeted (lines ++ written state event) new after
  stands_on new event after step = at_outcome new event after state.play.outcome refl step

pub stands_at_start : (opened : MatchState) (greeted : List (List ℕ)) → opened.streams.moment ≤ latest_moment → Stands opened greeted [] opened greeted
stands_at_start opened greeted small = record {
  replayed = opened;
  steps = matches.none;
  replays = record { same = refl; earlier = omega arith; ended = λ outcome ended. refl };
  small = small;
}

all_written : {opened : MatchState} {greeted : List (List ℕ)} {came lines : List AbstractEvent} {new : MatchState} {after : List (List ℕ)} → opened.streams.moment ≤ latest_moment → Writes opened greeted came lines new after → Stands opened greeted lines new after
all_written {opened} {greeted} small writing.nothing = stands_at_start opened greeted small
all_written {opened} {greeted} small (writing.more {lines = lines} {middle = middle} {new = new} {between = between} {after = after} before event step) =
    stands_on opened greeted lines middle between (all_written small before) new event after step

pub first_moment_small : (game : AbstractGame) (text : List ℕ) (config : Config) (now : ℕ) (state : MatchState) (outbox : List (List ℕ)) → Opens game text config now state outbox → state.streams.moment ≤ latest_moment
first_moment_small game text config now state outbox opens =
    subst (λ (streams : Streams). streams.moment ≤ latest_moment) (sym opens.streams) (let small : min now latest_moment ≤ latest_moment = omega arith in small)

pub written_is_enough : WrittenIsEnough
written_is_enough game text config now opened new before after came lines opens writes =
    let stands = all_written (first_moment_small game text config now opened before opens) writes in
    (stands.replayed, stands.steps, stands.replays)
