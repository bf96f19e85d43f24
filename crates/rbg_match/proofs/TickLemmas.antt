-- A moment of the clock after an event that isn't earlier changes nothing.
use Rattle.rbg_base.proofs.Common.{◌≡◌, ℕ, ◌≤◌, List, [], ◌∷◌, ◌++◌, map, refl, sym, ap, ◌∙◌, subst, arith, min, if◌then◌else◌, max-eq_left, le-max_right}
use Rattle.rbg_wire.specs.Streams.{Rest}
use Rattle.rbg_rules.specs.Meaning.{AbstractGame}
use Rattle.rbg_match.proofs.Common.{Config, Delivery, AbstractInput, tick, gone, sent, AbstractEvent, piece, end_of_stream, moment_alone, moment_of, TimedInput, Streams, counted, counted_first, has_seat, cut_of, inputs_in, inputs_at, timed_inputs_in, streams_after, streams_at_start, timed_inputs_of, TickAfter, TickAtStart, latest_moment, AbstractPlay, seats_of, HandlesAll}
use Rattle.rbg_match.proofs.AllEvents.{streams_through}
use Rattle.rbg_match.proofs.CuttingLemmas.{timed_inputs_of-append}
use Rattle.rbg_match.proofs.OneByOne.{all_to_each, each_to_all}
use Rattle.rbg_match.proofs.Transcripts.{of_other_inputs}
use Rattle.rbg_match.proofs.Settling.{tick_at, tick_dropped, tick_added, plays_on_settles, first_dropped, first_added}

-- an event means one input at least
record HasInput (rests : List Rest) (event : AbstractEvent) : Type 0 where
  pub first : AbstractInput
  pub others : List AbstractInput
  pub all : inputs_in rests event ≡ first ∷ others

has_input : (rests : List Rest) (event : AbstractEvent) → HasInput rests event
has_input rests (piece seat at bytes) = record { first = tick; others = if has_seat rests seat then map (sent seat) (cut_of rests seat bytes).items else []; all = refl }
has_input rests (end_of_stream seat at) = record { first = if has_seat rests seat then gone seat else tick; others = []; all = refl }
has_input rests (moment_alone at) = record { first = tick; others = []; all = refl }

-- a moment that isn't later than one that was counted
min_monotone : (a b c : ℕ) → a ≤ b → min a c ≤ min b c
min_monotone a b c before = omega (arith, before)

counted_after : (streams : Streams) (event : AbstractEvent) (at : ℕ) → at ≤ moment_of event → counted (streams_after streams event) at ≡ counted streams (moment_of event)
counted_after streams event at before =
    let small = min_monotone at (moment_of event) latest_moment before in
    let most = le-max_right streams.moment (min (moment_of event) latest_moment) in
    max-eq_left (omega (arith, small, most))

module _ (streams : Streams) (event : AbstractEvent) (at : ℕ) (after : List AbstractEvent) (before : at ≤ moment_of event) where
  abbrev moment : ℕ
  moment = counted streams (moment_of event)

  -- the streams after the tick are those before it
  same_streams : streams_after (streams_after streams event) (moment_alone at) ≡ streams_after streams event
  same_streams = λ i. record { moment = counted_after streams event at before i; rests = (streams_after streams event).rests }

  with_tick : timed_inputs_of streams (event ∷ moment_alone at ∷ after) ≡ timed_inputs_in streams event ++ tick_at moment ∷ timed_inputs_of (streams_after streams event) after
  with_tick =
      ap (λ (one : ℕ). timed_inputs_in streams event ++ tick_at one ∷ timed_inputs_of (streams_after (streams_after streams event) (moment_alone at)) after) (counted_after streams event at before)
      ∙ ap (λ (one : Streams). timed_inputs_in streams event ++ tick_at moment ∷ timed_inputs_of one after) same_streams

module _ (game : AbstractGame) (config : Config) (some : 1 ≤ config.turn_ms) (streams : Streams) (play end : AbstractPlay) (outgoing : List Delivery) where
  -- the inputs that these events mean are handled
  abbrev Handled : List AbstractEvent → Type 0
  Handled events = HandlesAll game config play (timed_inputs_of streams events) end outgoing

  module _ (before after : List AbstractEvent) (event : AbstractEvent) (at : ℕ) (early : at ≤ moment_of event) where
    abbrev here : Streams
    here = streams_through streams before

    abbrev now : ℕ
    now = counted here (moment_of event)

    abbrev rest : List TimedInput
    rest = timed_inputs_of (streams_after here event) after

    has : HasInput here.rests event
    has = has_input here.rests event

    without_is : timed_inputs_of streams (before ++ event ∷ after) ≡ timed_inputs_of streams before ++ (inputs_at now (has.first ∷ has.others) ++ rest)
    without_is = timed_inputs_of-append streams before (event ∷ after) ∙ ap (λ (inputs : List AbstractInput). timed_inputs_of streams before ++ (inputs_at now inputs ++ rest)) has.all

    with_is : timed_inputs_of streams (before ++ event ∷ moment_alone at ∷ after) ≡ timed_inputs_of streams before ++ (inputs_at now (has.first ∷ has.others) ++ tick_at now ∷ rest)
    with_is =
        timed_inputs_of-append streams before (event ∷ moment_alone at ∷ after)
        ∙ ap (λ (next : List TimedInput). timed_inputs_of streams before ++ next) (with_tick here event at after early)
        ∙ ap (λ (inputs : List AbstractInput). timed_inputs_of streams before ++ (inputs_at now inputs ++ tick_at now ∷ rest)) has.all

    drop_tick : Handled (before ++ event ∷ moment_alone at ∷ after) → Handled (before ++ event ∷ after)
    drop_tick handles =
        let parts = subst (λ (inputs : List TimedInput). HandlesAll game config play inputs end outgoing) with_is handles in
        subst (λ (inputs : List TimedInput). HandlesAll game config play inputs end outgoing) (sym without_is) (each_to_all (tick_dropped game config some now (timed_inputs_of streams before) has.first has.others rest (all_to_each parts)))

    add_tick : Handled (before ++ event ∷ after) → Handled (before ++ event ∷ moment_alone at ∷ after)
    add_tick handles =
        let parts = subst (λ (inputs : List TimedInput). HandlesAll game config play inputs end outgoing) without_is handles in
        subst (λ (inputs : List TimedInput). HandlesAll game config play inputs end outgoing) (sym with_is) (each_to_all (tick_added game config some now (timed_inputs_of streams before) has.first has.others rest (all_to_each parts)))

pub tick_after : TickAfter
tick_after game text config now some before after event at early play outgoing =
    let streams = streams_at_start (seats_of game) now in (
      λ one. of_other_inputs _ one (drop_tick game config some streams one.opened play one.replies before after event at early one.goes_on),
      λ one. of_other_inputs _ one (add_tick game config some streams one.opened play one.replies before after event at early one.goes_on),
    )

-- a moment that isn't later than the first one
module _ (seats now at : ℕ) (after : List AbstractEvent) (early : at ≤ now) where
  abbrev start : Streams
  start = streams_at_start seats now

  counted_at_start : counted start at ≡ counted_first now
  counted_at_start = max-eq_left (min_monotone at now latest_moment early)

  start_again : streams_after start (moment_alone at) ≡ start
  start_again = λ i. record { moment = counted_at_start i; rests = start.rests }

  tick_first : timed_inputs_of start (moment_alone at ∷ after) ≡ tick_at (counted_first now) ∷ timed_inputs_of start after
  tick_first =
      ap (λ (one : ℕ). tick_at one ∷ timed_inputs_of (streams_after start (moment_alone at)) after) counted_at_start
      ∙ ap (λ (one : Streams). tick_at (counted_first now) ∷ timed_inputs_of one after) start_again

pub tick_at_start : TickAtStart
tick_at_start game text config now some after at early play outgoing =
    let seats = seats_of game in
    let inputs = timed_inputs_of (streams_at_start seats now) after in
    let same = tick_first seats now at after early in (
      λ one. of_other_inputs _ one
          (each_to_all (first_dropped game config some (counted_first now) inputs (plays_on_settles config some one.opens)
          (all_to_each (subst (λ (inputs : List TimedInput). HandlesAll game config one.opened inputs play one.replies) same one.goes_on)))),
      λ one. of_other_inputs _ one
          (subst (λ (inputs : List TimedInput). HandlesAll game config one.opened inputs play one.replies) (sym same)
          (each_to_all (first_added game config some (counted_first now) inputs (plays_on_settles config some one.opens) (all_to_each one.goes_on)))),
    )
