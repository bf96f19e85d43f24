-- Every transcript has a history.
use Rattle.rbg_base.proofs.Common.{◌≡◌, ℕ, ◌≤◌, List, [], ◌∷◌, length, Option, Some, None, refl, sym, ap, ◌∙◌, subst, arith, min, le-max_left, min-le_right, length-replicate, none-some}
use Rattle.rbg_wire.specs.declared.outcome.Outcome.{Outcome}
use Rattle.rbg_wire.specs.Streams.{incomplete}
use Rattle.rbg_rules.specs.Meaning.{AbstractGame}
use Rattle.rbg_match.proofs.Common.{Config, IsWithinLimits, Delivery, IsHistory, AbstractEvent, Streams, counted, counted_first, moment_of, streams_after, streams_at_start, timed_inputs_in, timed_inputs_of, TranscriptHasHistory, latest_moment, AbstractPlay, seats_of}
use Rattle.rbg_match.specs.History as history
use Rattle.rbg_match.proofs.Histories.{plays_on_keeps, handles_all_keeps, kept_later, some_input, timed_of_event}
use Rattle.rbg_match.proofs.OneByOne.{HandlesEach, none, parted, all_to_each, each_to_all}
use Rattle.rbg_match.proofs.OneTranscriptLemmas.{each_stays, as_many}

-- the moment of an event is counted, and is not before the ones so far
counted_most : (streams : Streams) (at : ℕ) → streams.moment ≤ latest_moment → counted streams at ≤ latest_moment
counted_most streams at few =
    let most = min-le_right at latest_moment in
    omega (arith, few, most)

module _ (game : AbstractGame) (config : Config) (lawful : IsWithinLimits config) (began : ℕ) where
  -- a history at a moment, which is the maximum so far while the match lasts
  record HasHistoryAt (streams : Streams) (play : AbstractPlay) : Type 0 where
    pub moment : ℕ
    pub has : IsHistory game config began moment play
    pub now : play.outcome ≡ None → moment ≡ streams.moment

  -- an event of a match that has not ended
  after_event : (streams : Streams) (event : AbstractEvent) {play middle : AbstractPlay} {outgoing : List Delivery} → streams.moment ≤ latest_moment → length streams.rests ≡ seats_of game → HasHistoryAt streams play → (outcome : Option Outcome) → play.outcome ≡ outcome → HandlesEach game config play (timed_inputs_in streams event) middle outgoing → HasHistoryAt (streams_after streams event) middle
  after_event streams event few same before None going handles =
      let moment = counted streams (moment_of event) in
      let earlier = before.now going in
      let later = le-max_left streams.moment (min (moment_of event) latest_moment) in
      let kept = kept_later moment (subst (λ (one : ℕ). one ≤ moment) (sym earlier) later) going before.has in
      let all = timed_of_event game streams.rests same moment event in
      record {
        moment = moment;
        has = (handles_all_keeps lawful (counted_most streams (moment_of event) few) (each_to_all handles) all kept).1 (some_input game streams.rests moment event);
        now = λ _. refl;
      }
  after_event streams event few same before (Some outcome) ended handles =
      let stays = (each_stays outcome ended handles).0 in
      record {
        moment = before.moment;
        has = subst (λ (one : AbstractPlay). IsHistory game config began before.moment one) (sym stays) before.has;
        now = λ going. absurd (none-some outcome (sym going ∙ ap (λ (one : AbstractPlay). one.outcome) stays ∙ ended));
      }

  after_events : (streams : Streams) (events : List AbstractEvent) {play after : AbstractPlay} {outgoing : List Delivery} → streams.moment ≤ latest_moment → length streams.rests ≡ seats_of game → HasHistoryAt streams play → HandlesEach game config play (timed_inputs_of streams events) after outgoing → (moment : ℕ) × IsHistory game config began moment after
  after_events streams [] few same before none = (before.moment, before.has)
  after_events streams (event ∷ events) {play = play} few same before handles =
      let parts = parted (timed_inputs_in streams event) (timed_inputs_of (streams_after streams event) events) handles in
      let middle = after_event streams event few same before play.outcome refl parts.handles in
      after_events (streams_after streams event) events (counted_most streams (moment_of event) few) (as_many streams.rests event ∙ same) middle parts.goes_on

pub transcript_has_history : TranscriptHasHistory
transcript_has_history game text config now events play outgoing lawful transcript =
    let began = counted_first now in
    let few = min-le_right now latest_moment in
    let opened = plays_on_keeps lawful few transcript.opens refl history.none history.nothing in
    after_events game config lawful began (streams_at_start (seats_of game) now) events few (length-replicate (seats_of game) (incomplete []))
    (record { moment = began; has = opened; now = λ _. refl })
    (all_to_each transcript.goes_on)
