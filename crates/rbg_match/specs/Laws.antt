-- Laws of a whole match.
use Rattle.std.specs.Prelude.{◌≡◌, ◌≤◌, ◌==◌, ◌↔◌, ℕ, suc, if◌then◌else◌, List, [], ◌∷◌, ◌++◌, map, Some}
use Rattle.std.specs.List.{concat, filter}
use Rattle.rbg_wire.specs.declared.outcome.Outcome.{Outcome}
use Rattle.rbg_wire.specs.declared.outcome.Outcome.TheVariants.{Heavy}
use Rattle.rbg_wire.specs.Messages.{end_message}
use Rattle.rbg_rules.specs.Meaning.{IsNumbered, AbstractGame}
use Rattle.rbg_match.specs.declared.config.Config.{Config}
use Rattle.rbg_match.specs.declared.made.Made.{Made}
use Rattle.rbg_match.specs.Config.{IsWithinLimits}
use Rattle.rbg_match.specs.Deliveries.{Delivery, to_each, queued}
use Rattle.rbg_match.specs.History.{IsHistory}
use Rattle.rbg_match.specs.Inputs.{counted_first, TimedInput}
use Rattle.rbg_script.specs.Events.{AbstractEvent, piece, moment_alone, moment_of}
use Rattle.rbg_moves.specs.Limits.{most_keeper_moves}
use Rattle.rbg_match.specs.Matches.{MatchState, Opens, StepsAll}
use Rattle.rbg_match.specs.Play.{AbstractPlay, mover_of}
use Rattle.rbg_match.specs.PlayingOn.{seats_of}
use Rattle.rbg_match.specs.Transcript.{HandlesAll, Transcript}

-- How a seat's stream is cut does not matter if a turn lasts some time. A piece may be replaced by one or more pieces
-- of the same seat and moment, directly one after the other and with the same bytes joined: the transcripts stay the
-- same.
abbrev pub Cutting : Type 0
Cutting =
    (game : AbstractGame) (text : List ℕ) (config : Config) (now : ℕ) →
    1 ≤ config.turn_ms →
    (before after : List AbstractEvent) (seat at : ℕ) (first : List ℕ) (others : List (List ℕ)) →
    (play : AbstractPlay) (outgoing : List Delivery) →
    Transcript game text config now (before ++ piece seat at (concat (first ∷ others)) ∷ after) play outgoing
    ↔ Transcript game text config now (before ++ map (piece seat at) (first ∷ others) ++ after) play outgoing

-- the pairs of the keeper's moves among these moves
abbrev pub keeper_pairs : List Made → List (List (ℕ × ℕ))
keeper_pairs moves = map (λ made. made.pairs) (filter (λ made. made.player == 0) moves)

-- how many of these moves at their end are the keeper's, if `before` moves of the keeper's came directly before them
abbrev pub keeper_run : (before : ℕ) → List Made → ℕ
keeper_run before [] = before
keeper_run before (made ∷ moves) = keeper_run (if made.player == 0 then suc before else 0) moves

-- The match has ended with `E4` because a question was above the limits, and not because the keeper was to move after
-- 1,000 moves in a row.
pub record IsHeavyEnd (play : AbstractPlay) : Type 0 where
  pub heavy : play.outcome ≡ Some Heavy
  pub not_endless : mover_of play ≡ 0 → most_keeper_moves ≤ keeper_run 0 play.made → ⊥

-- The keeper's moves in both matches are the first ones of one list.
pub record HaveOneKeeper (one other : AbstractPlay) : Type 0 where
  pub one_later : List (List (ℕ × ℕ))
  pub other_later : List (List (ℕ × ℕ))
  pub same : keeper_pairs one.made ++ one_later ≡ keeper_pairs other.made ++ other_later

-- The match has ended with `E4` because a question was above the limits. Until then it sent what another match sends.
pub record StopsWithin (game : AbstractGame) (play : AbstractPlay) (outgoing others : List Delivery) : Type 0 where
  pub heavy : IsHeavyEnd play
  pub before : List Delivery
  pub after : List Delivery
  pub told : outgoing ≡ before ++ to_each (seats_of game) (end_message Heavy)
  pub goes_on : others ≡ before ++ after

-- Two matches are the same, or they are until one of them ends because a question was above the limits.
pub data AreAlike (game : AbstractGame) (one other : AbstractPlay) (outgoing others : List Delivery) : Type 0 where
  equal : one ≡ other → outgoing ≡ others → AreAlike game one other outgoing others
  one_stops : StopsWithin game one outgoing others → AreAlike game one other outgoing others
  other_stops : StopsWithin game other others outgoing → AreAlike game one other outgoing others

-- what holds of any two transcripts of the same events
abbrev pub OfTwoTranscripts : (AbstractGame → (one other : AbstractPlay) → (outgoing others : List Delivery) → Type 0) → Type 0
OfTwoTranscripts Then =
    (game : AbstractGame) (text : List ℕ) (config : Config) (now : ℕ) (events : List AbstractEvent) →
    (play play' : AbstractPlay) (outgoing outgoing' : List Delivery) →
    IsNumbered game.rules →
    Transcript game text config now events play outgoing →
    Transcript game text config now events play' outgoing' →
    Then game play play' outgoing outgoing'

-- The text, the config, the first moment and the events decide everything but the keeper's moves and where a match ends
-- because a question is above the limits. So if the keeper's moves in two transcripts of them are the first ones of one
-- list, the transcripts are the same until one of them ends for that reason.
abbrev pub OneUntilHeavy : Type 0
OneUntilHeavy =
    OfTwoTranscripts (λ game one other outgoing others. HaveOneKeeper one other → AreAlike game one other outgoing others)

-- Two such transcripts are the same if the keeper's moves have the same pairs in both, and neither has ended because a
-- question was above the limits.
abbrev pub OneTranscript : Type 0
OneTranscript =
    OfTwoTranscripts (λ game one other outgoing others.
    ¬ IsHeavyEnd one →
    ¬ IsHeavyEnd other →
    keeper_pairs one.made ≡ keeper_pairs other.made →
    (one ≡ other) × (outgoing ≡ others))

-- What a match that opens and then handles these events in turn leaves: its state of play is that of a transcript of
-- them, and each seat has the bytes of what that transcript sends.
abbrev pub SteppedIsTranscript : Type 0
SteppedIsTranscript =
    (game : AbstractGame) (text : List ℕ) (config : Config) (now : ℕ) (events : List AbstractEvent) →
    (opened new : MatchState) (before after : List (List ℕ)) →
    Opens game text config now opened before →
    StepsAll opened before events new after →
    (outgoing : List Delivery)
    × Transcript game text config now events new.play outgoing
    × (after ≡ queued (seats_of game) outgoing)

-- A moment of the clock that isn't later than the event before it changes nothing and sends nothing: the transcripts
-- with it and without it are the same.
abbrev pub TickAfter : Type 0
TickAfter =
    (game : AbstractGame) (text : List ℕ) (config : Config) (now : ℕ) →
    1 ≤ config.turn_ms →
    (before after : List AbstractEvent) (event : AbstractEvent) (at : ℕ) →
    at ≤ moment_of event →
    (play : AbstractPlay) (outgoing : List Delivery) →
    Transcript game text config now (before ++ event ∷ moment_alone at ∷ after) play outgoing
    ↔ Transcript game text config now (before ++ event ∷ after) play outgoing

-- A moment of the clock that isn't later than the first moment of a match, before any event, changes nothing either.
abbrev pub TickAtStart : Type 0
TickAtStart =
    (game : AbstractGame) (text : List ℕ) (config : Config) (now : ℕ) →
    1 ≤ config.turn_ms →
    (after : List AbstractEvent) (at : ℕ) →
    at ≤ now →
    (play : AbstractPlay) (outgoing : List Delivery) →
    Transcript game text config now (moment_alone at ∷ after) play outgoing
    ↔ Transcript game text config now after play outgoing

-- Every transcript has a history: for the state of play at its end, the moves were legal and made in their turns, and
-- the outcome fits, for some maximum moment.
abbrev pub TranscriptHasHistory : Type 0
TranscriptHasHistory =
    (game : AbstractGame) (text : List ℕ) (config : Config) (now : ℕ) (events : List AbstractEvent) →
    (play : AbstractPlay) (outgoing : List Delivery) →
    IsWithinLimits config →
    Transcript game text config now events play outgoing →
    (moment : ℕ) × IsHistory game config (counted_first now) moment play

-- Play that has ended stays as it is, whatever the inputs are, and nothing is sent.
abbrev pub EndedPlayStays : Type 0
EndedPlayStays =
    (game : AbstractGame) (config : Config) (play after : AbstractPlay) (outcome : Outcome) →
    (inputs : List TimedInput) (outgoing : List Delivery) →
    play.outcome ≡ Some outcome →
    HandlesAll game config play inputs after outgoing →
    (after ≡ play) × (outgoing ≡ [])

-- A match that has ended stays as it is, whatever the events are, and so does what each seat has.
abbrev pub EndedMatchStays : Type 0
EndedMatchStays =
    (old new : MatchState) (outcome : Outcome) (events : List AbstractEvent) (before after : List (List ℕ)) →
    old.play.outcome ≡ Some outcome →
    StepsAll old before events new after →
    (new ≡ old) × (after ≡ before)
