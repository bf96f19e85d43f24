-- A whole match: what is sent at the start, and for a list of inputs or events.
use Rattle.std.specs.Prelude.{◌≡◌, ℕ, List, [], ◌∷◌, ◌++◌}
use Rattle.std.specs.List.{flat_map, enumerate_from}
use Rattle.rbg_wire.specs.Messages.{who_message, game_message, limits_message}
use Rattle.rbg_rules.specs.Meaning.{AbstractGame}
use Rattle.rbg_match.specs.declared.config.Config.{Config}
use Rattle.rbg_match.specs.Deliveries.{Delivery, to_seat}
use Rattle.rbg_match.specs.Handling.{Handles}
use Rattle.rbg_match.specs.Inputs.{TimedInput, counted_first, streams_at_start, timed_inputs_of}
use Rattle.rbg_script.specs.Events.{AbstractEvent}
use Rattle.rbg_match.specs.Play.{AbstractPlay, play_at_start}
use Rattle.rbg_match.specs.PlayingOn.{PlaysOn, seats_of}

-- the first messages to a seat: its player's number and name, the text of the game, the config
abbrev pub greeting : (text : List ℕ) → Config → (seat : ℕ) → (name : List ℕ) → List Delivery
greeting text config seat name =
    to_seat seat (who_message seat name)
    ++ to_seat seat (game_message text)
    ++ to_seat seat (limits_message config.turn_ms config.refusals)

-- the first messages to each seat, in order
abbrev pub greetings : (text : List ℕ) → Config → (names : List (List ℕ)) → List Delivery
greetings text config names = flat_map (λ one. greeting text config one.0 one.1) (enumerate_from 1 names)

-- The match handles these inputs in turn.
pub data HandlesAll (game : AbstractGame) (config : Config) (play : AbstractPlay) :
    List TimedInput → (after : AbstractPlay) → (outgoing : List Delivery) → Type 0 where
  none :
      HandlesAll game config play [] play []
  more : {inputs : List TimedInput} {middle after : AbstractPlay} {first next : List Delivery} {input : TimedInput} →
      HandlesAll game config play inputs middle first →
      Handles game config middle input.moment input.input after next →
      HandlesAll game config play (inputs ++ input ∷ []) after (first ++ next)

-- With this game and text, this config, from the moment `now` on, and with these inputs in turn, these messages are
-- sent in the whole match, and this is the state of play at the end. First each seat is greeted, and play continues
-- from the start. Then the inputs are handled in turn.
pub record InputTranscript (game : AbstractGame) (text : List ℕ) (config : Config) (now : ℕ)
    (inputs : List TimedInput) (play : AbstractPlay) (outgoing : List Delivery) : Type 0 where
  pub opened : AbstractPlay
  pub opening : List Delivery
  pub replies : List Delivery
  pub opens : PlaysOn game (counted_first now) 0 (play_at_start game (counted_first now)) opened opening
  pub goes_on : HandlesAll game config opened inputs play replies
  pub whole : outgoing ≡ greetings text config game.players ++ opening ++ replies

-- The same for a list of events: the inputs are those that the events mean.
abbrev pub Transcript : AbstractGame → (text : List ℕ) → Config → (now : ℕ) →
    List AbstractEvent → AbstractPlay → (outgoing : List Delivery) → Type 0
Transcript game text config now events play outgoing =
    InputTranscript game text config now (timed_inputs_of (streams_at_start (seats_of game) now) events) play outgoing
