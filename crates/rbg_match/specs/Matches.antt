-- A match: what it is, how it opens, and what an event changes.
use Rattle.std.specs.Prelude.{◌≡◌, ℕ, Bool, false, List, [], ◌∷◌, ◌++◌, Some, None}
use Rattle.rbg_wire.specs.declared.outcome.Outcome.{Outcome}
use Rattle.rbg_rules.specs.Meaning.{AbstractGame}
use Rattle.rbg_match.specs.declared.config.Config.{Config}
use Rattle.rbg_match.specs.Config.{IsWithinLimits}
use Rattle.rbg_match.specs.Deliveries.{Delivery, queued, delivered}
use Rattle.rbg_match.specs.History.{IsHistory}
use Rattle.rbg_match.specs.Inputs.{Streams, counted, counted_first, streams_at_start, streams_after, timed_inputs_in}
use Rattle.rbg_script.specs.Events.{AbstractEvent, moment_of}
use Rattle.rbg_match.specs.Play.{AbstractPlay, play_at_start}
use Rattle.rbg_match.specs.PlayingOn.{PlaysOn, seats_of}
use Rattle.rbg_match.specs.Transcript.{HandlesAll, greetings}

-- A match: its game and config, the counted moment at which it began, the state of play, what the next events need of
-- those so far, and whether it has failed because it ran out of memory. The streams' moment is the maximum counted one.
-- After the end of the match it stays the moment of the end.
pub record MatchState : Type 0 where
  pub game : AbstractGame
  pub config : Config
  pub began : ℕ
  pub play : AbstractPlay
  pub streams : Streams
  pub failed : Bool

-- The history of a match.
abbrev pub HasHistory : MatchState → Type 0
HasHistory state = IsHistory state.game state.config state.began state.streams.moment state.play

-- A match of this game, text and config opens at a moment: each seat is greeted, and play continues from the start.
pub record Opens (game : AbstractGame) (text : List ℕ) (config : Config) (now : ℕ)
    (state : MatchState) (outbox : List (List ℕ)) : Type 0 where
  pub lawful : IsWithinLimits config
  pub of_game : state.game ≡ game
  pub of_config : state.config ≡ config
  pub begins : state.began ≡ counted_first now
  pub works : state.failed ≡ false
  pub streams : state.streams ≡ streams_at_start (seats_of game) now
  pub opening : List Delivery
  pub opens : PlaysOn game (counted_first now) 0 (play_at_start game (counted_first now)) state.play opening
  pub told : outbox ≡ queued (seats_of game) (greetings text config game.players ++ opening)

-- What an event changes in a match and in what each seat has. The inputs that the event means are handled in turn, and
-- the messages that this sends follow what each seat had. The maximum moment is that of the event, and while the match
-- lasts, its streams are those after the event. A match that has ended stays as it is, and nothing is sent.
pub record Steps (old : MatchState) (event : AbstractEvent) (new : MatchState)
    (before after : List (List ℕ)) : Type 0 where
  pub worked : old.failed ≡ false
  pub works : new.failed ≡ false
  pub same_game : new.game ≡ old.game
  pub same_config : new.config ≡ old.config
  pub same_begin : new.began ≡ old.began
  pub outgoing : List Delivery
  pub handles : HandlesAll old.game old.config old.play (timed_inputs_in old.streams event) new.play outgoing
  pub told : after ≡ delivered before outgoing
  pub moment : old.play.outcome ≡ None → new.streams.moment ≡ counted old.streams (moment_of event)
  pub streams : new.play.outcome ≡ None → new.streams ≡ streams_after old.streams event
  pub stays : (outcome : Outcome) → old.play.outcome ≡ Some outcome → new ≡ old
  pub silent : (outcome : Outcome) → old.play.outcome ≡ Some outcome → after ≡ before

-- What these events in turn change in a match and in what each seat has.
pub data StepsAll (old : MatchState) (before : List (List ℕ)) :
    List AbstractEvent → (new : MatchState) → (after : List (List ℕ)) → Type 0 where
  none :
      StepsAll old before [] old before
  more : {events : List AbstractEvent} {event : AbstractEvent} {middle new : MatchState}
      {between after : List (List ℕ)} →
      StepsAll old before events middle between →
      Steps middle event new between after →
      StepsAll old before (events ++ event ∷ []) new after
