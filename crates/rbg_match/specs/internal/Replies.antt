-- What a referee has, and what a call of it sends and makes of play.
use Rattle.std.specs.Prelude.{◌≡◌, ℕ, ◌<◌, ◌≤◌, List, length, Result, IfOk}
use Rattle.rbg_wire.specs.declared.outcome.Outcome.{Outcome}
use Rattle.rbg_wire.specs.Messages.{end_message, move_message}
use Rattle.rbg_rules.specs.Meaning.{AbstractGame, IsGame, AbstractPlace, Legal}
use Rattle.rbg_moves.specs.Limits.{most_keeper_moves}
use Rattle.rbg_match.specs.declared.config.Config.{Config}
use Rattle.rbg_match.specs.declared.turns.Progress.{Progress}
use Rattle.rbg_match.specs.declared.turns.Progress.TheVariants.{KeeperMoved, Settled}
use Rattle.rbg_match.specs.Config.{IsWithinLimits}
use Rattle.rbg_match.specs.Deliveries.{Delivery, delivered, to_each}
use Rattle.rbg_match.specs.Handling.{AbstractInput}
use Rattle.rbg_match.specs.Inputs.{inputs_at}
use Rattle.rbg_base.specs.Move.{most_pairs}
use Rattle.rbg_match.specs.Limits.{latest_moment}
use Rattle.rbg_match.specs.Play.{AbstractPlay, mover_of, ended, moved}
use Rattle.rbg_match.specs.PlayingOn.{PlaysOn, seats_of}
use Rattle.rbg_match.specs.Transcript.{HandlesAll}
use Rattle.rbg_match.specs.internal.Playable.{IsPlayOf}

-- The game and the config, the counted moment, the state of play, and what each seat has.
pub record RefereeState : Type 0 where
  pub game : AbstractGame
  pub config : Config
  pub moment : ℕ
  pub play : AbstractPlay
  pub outbox : List (List ℕ)

-- What holds of them at all times: the game is an accepted one, the config is within the limits, the moment is a counted
-- one, the state of play is one of the game, and there is a queue for each seat.
pub record IsReferee (game : AbstractGame) (config : Config) (moment : ℕ) (play : AbstractPlay)
    (outbox : List (List ℕ)) : Type 0 where
  pub accepted : IsGame game
  pub lawful : IsWithinLimits config
  pub counted : moment ≤ latest_moment
  pub in_game : IsPlayOf game play
  pub seats : length outbox ≡ seats_of game

-- the same referee, with play at another state, and with these messages after what each seat had
abbrev pub gone_on : RefereeState → AbstractPlay → List Delivery → RefereeState
gone_on referee play outgoing = record referee { play = play; outbox = delivered referee.outbox outgoing }

-- The effect of a call that returns a value: the state of play after it, and the messages.
abbrev pub Reply : Type 0 → Type 1
Reply T = RefereeState → T → (after : AbstractPlay) → (outgoing : List Delivery) → Type 0

-- A call changes the state of play and queues messages, and nothing else. If it succeeds, both are those of its reply.
-- After an error they may be others.
pub record Replies {T E : Type 0} (old new : RefereeState) (result : Result T E) (IsReply : Reply T) : Type 0 where
  pub after : AbstractPlay
  pub outgoing : List Delivery
  pub becomes : new ≡ gone_on old after outgoing
  pub whole : IfOk result (λ value. IsReply old value after outgoing)

-- The match ends with that outcome, which is sent to each seat.
abbrev pub Ends : {T : Type 0} → Outcome → Reply T
Ends outcome referee _ after outgoing =
    (after ≡ ended referee.play outcome) × (outgoing ≡ to_each (seats_of referee.game) (end_message outcome))

-- The mover makes the legal move of these pairs, which is sent to every seat.
pub record Makes (referee : RefereeState) (pairs : List (ℕ × ℕ)) (after : AbstractPlay)
    (outgoing : List Delivery) : Type 0 where
  pub to : AbstractPlace
  pub legal : Legal referee.game referee.play.place pairs to
  pub makes : after ≡ moved referee.play referee.moment pairs to
  pub told : outgoing ≡ to_each (seats_of referee.game) (move_message pairs)

-- After that many moves in a row the keeper makes one more.
pub record KeeperMoves (referee : RefereeState) (in_a_row : ℕ) (after : AbstractPlay)
    (outgoing : List Delivery) : Type 0 where
  pub keeper : mover_of referee.play ≡ 0
  pub may : in_a_row < most_keeper_moves
  pub pairs : List (ℕ × ℕ)
  pub short : length pairs ≤ most_pairs
  pub makes : Makes referee pairs after outgoing

-- One step of play: it was a move of the keeper, or play has settled.
abbrev pub PlaysOnOnce : (in_a_row : ℕ) → Reply Progress
PlaysOnOnce n referee KeeperMoved after outgoing = KeeperMoves referee n after outgoing
PlaysOnOnce n referee Settled after outgoing = PlaysOn referee.game referee.moment n referee.play after outgoing

-- The referee handles these inputs in turn, each at the counted moment.
abbrev pub HandlesNow : List AbstractInput → RefereeState → (after : AbstractPlay) → (outgoing : List Delivery) → Type 0
HandlesNow inputs referee = HandlesAll referee.game referee.config referee.play (inputs_at referee.moment inputs)
