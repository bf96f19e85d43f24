-- A player: what it has received so far.
use Rattle.std.specs.Prelude.{ℕ, [], Option, Some, None}
use Rattle.rbg_wire.specs.declared.outcome.Outcome.{Outcome}
use Rattle.rbg_wire.specs.Streams.{Rest, incomplete}
use Rattle.rbg_rules.specs.Meaning.{AbstractGame, start_of, AbstractPlace}
use Rattle.rbg_player.specs.declared.error.PlayerError.{PlayerError}
use Rattle.rbg_player.specs.declared.heard.Heard.{Heard}
use Rattle.rbg_player.specs.declared.heard.Heard.TheVariants.{Going, Ended}

-- A seat in a game: the number of its player, the game, and the place that play has reached.
pub record AbstractSeat : Type 0 where
  pub player : ℕ
  pub game : AbstractGame
  pub place : AbstractPlace

-- the seat of that player when play begins
abbrev pub seat_at_start : (player : ℕ) → AbstractGame → AbstractSeat
seat_at_start player game = record {
  player = player;
  game = game;
  place = record { state = start_of game; last = None };
}

-- the seat after a move to that place
abbrev pub moved_to : AbstractSeat → AbstractPlace → AbstractSeat
moved_to seat to = record seat { place = to }

-- How far a player has come.
--   unnamed: it waits for `W`, which has its number.
--   named: it waits for `G`, the text of the game.
--   seated: it knows its seat, and waits for `L`.
--   playing: it follows play.
--   ended: it has received the end of play.
--   failed: it returned this error, and returns it from then on.
pub data Stage : Type 0 where
  unnamed : Stage
  named : (player : ℕ) → Stage
  seated : AbstractSeat → Stage
  playing : AbstractSeat → Stage
  ended : Outcome → Stage
  failed : PlayerError → Stage

-- A player: its stage, and the end of its stream that is no whole message yet.
pub record AbstractPlayer : Type 0 where
  pub stage : Stage
  pub rest : Rest

-- a player that has received nothing
abbrev pub new_player : AbstractPlayer
new_player = record { stage = unnamed; rest = incomplete [] }

-- what a player returns at its stage: the outcome, once it has received the end
abbrev pub heard_at : Stage → Heard
heard_at (ended outcome) = Ended outcome
heard_at _ = Going

-- the error that a player has returned, if it has returned one
abbrev pub error_at : Stage → Option PlayerError
error_at (failed error) = Some error
error_at _ = None
