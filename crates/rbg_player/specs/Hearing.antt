-- What a player does when it receives one message.
use Rattle.std.specs.Prelude.{◌≡◌, ℕ, ◌≤◌, List, [], ◌∷◌, length, Bool, true, false}
use Rattle.rbg_base.specs.Move.{most_pairs}
use Rattle.rbg_wire.specs.declared.message.Reason.{Reason}
use Rattle.rbg_wire.specs.declared.message.Reason.TheVariants.{NoSeat}
use Rattle.rbg_wire.specs.declared.outcome.Outcome.{Outcome}
use Rattle.rbg_wire.specs.Messages.{AbstractMessage, who_message, game_message, limits_message, move_message, refusal_message, end_message}
use Rattle.rbg_rules.specs.Meaning.{AbstractGame, AbstractPlace, Legal, IsLegal, Finished, list_moves, IsHeavyToTry, IsTooHard}
use Rattle.rbg_game.specs.Loading.{Loads}
use Rattle.rbg_player.specs.declared.error.PlayerError.{PlayerError}
use Rattle.rbg_player.specs.declared.error.PlayerError.TheVariants as errors
use Rattle.rbg_player.specs.Players.{AbstractSeat, seat_at_start, moved_to, Stage, unnamed, named, seated, playing, ended}

-- The number is that of a player of the game.
abbrev pub IsPlayerOf : AbstractGame → (player : ℕ) → Type 0
IsPlayerOf game player = (1 ≤ player) × (player ≤ length game.players)

-- The seat's player is the mover at its place.
abbrev pub IsMover : AbstractSeat → Type 0
IsMover seat = seat.place.state.player ≡ seat.player

-- The seat's player has a move to make: it is the mover, and play isn't finished.
abbrev pub HasMoveToMake : AbstractSeat → Type 0
HasMoveToMake seat = IsMover seat × ¬ Finished seat.game seat.place

-- A player accepts a message, and sends these messages. It sends one only if a move makes it the mover of a place that
-- isn't finished.
--   is_named: `W` has its number.
--   is_seated: `G` has its game, in which there is a player of that number.
--   begins: `L` begins play.
--   passes: a legal move is made, and the player has no move to make.
--   answers: a legal move is made, and the player has a move to make. It sends one that is legal.
--   is_refused: a refusal changes nothing.
--   ends: play has ended.
pub data Accepts : Stage → AbstractMessage → (after : Stage) → (outgoing : List AbstractMessage) → Type 0 where
  is_named : {player : ℕ} {text : List ℕ} →
      Accepts unnamed (who_message player text) (named player) []
  is_seated : {player : ℕ} {text : List ℕ} {loaded : AbstractGame} →
      Loads text loaded →
      IsPlayerOf loaded player →
      Accepts (named player) (game_message text) (seated (seat_at_start player loaded)) []
  begins : {seat : AbstractSeat} {turn_ms refusals : ℕ} →
      Accepts (seated seat) (limits_message turn_ms refusals) (playing seat) []
  passes : {seat : AbstractSeat} {pairs : List (ℕ × ℕ)} {to : AbstractPlace} →
      Legal seat.game seat.place pairs to →
      ¬ HasMoveToMake (moved_to seat to) →
      Accepts (playing seat) (move_message pairs) (playing (moved_to seat to)) []
  answers : {seat : AbstractSeat} {pairs answer : List (ℕ × ℕ)} {to : AbstractPlace} →
      Legal seat.game seat.place pairs to →
      HasMoveToMake (moved_to seat to) →
      IsLegal seat.game to answer →
      length answer ≤ most_pairs →
      Accepts (playing seat) (move_message pairs) (playing (moved_to seat to)) (move_message answer ∷ [])
  is_refused : {seat : AbstractSeat} {reason : Reason} →
      Accepts (playing seat) (refusal_message reason) (playing seat) []
  ends : {seat : AbstractSeat} {outcome : Outcome} →
      Accepts (playing seat) (end_message outcome) (ended outcome) []

-- The messages that are in place: `W`, or a refusal for lack of a seat; then `G`; then `L`; then moves, refusals and
-- one end. `H` is never in place.
abbrev pub is_in_place : Stage → AbstractMessage → Bool
is_in_place unnamed (who_message player name) = true
is_in_place unnamed (refusal_message NoSeat) = true
is_in_place (named player) (game_message text) = true
is_in_place (seated seat) (limits_message turn_ms refusals) = true
is_in_place (playing seat) (move_message pairs) = true
is_in_place (playing seat) (refusal_message reason) = true
is_in_place (playing seat) (end_message outcome) = true
is_in_place _ _ = false

-- Why a player doesn't continue after a message.
--   out_of_place: `BadMessage`, the message is out of place.
--   no_game: `BadMessage`, the text of `G` is no game's.
--   no_player: `BadMessage`, the game has no player of its number.
--   illegal: `NotLegal`, the move isn't legal.
--   heavy_to_try: `Over`, the question whether the move is legal is above the limits.
--   heavy_to_list: `Over`, the move makes it the mover, and the question for the legal moves is above the limits.
--   memory: `Memory`, which says nothing about the message.
--   no_seat: `NoSeat`, a refusal before `W`, since there is no seat.
pub data HasFault : Stage → AbstractMessage → PlayerError → Type 0 where
  out_of_place : {stage : Stage} {message : AbstractMessage} →
      is_in_place stage message ≡ false →
      HasFault stage message errors.BadMessage
  no_game : {player : ℕ} {text : List ℕ} →
      ((game : AbstractGame) → ¬ Loads text game) →
      HasFault (named player) (game_message text) errors.BadMessage
  no_player : {player : ℕ} {text : List ℕ} {loaded : AbstractGame} →
      Loads text loaded →
      ¬ IsPlayerOf loaded player →
      HasFault (named player) (game_message text) errors.BadMessage
  illegal : {seat : AbstractSeat} {pairs : List (ℕ × ℕ)} →
      ((to : AbstractPlace) → ¬ Legal seat.game seat.place pairs to) →
      HasFault (playing seat) (move_message pairs) errors.NotLegal
  heavy_to_try : {seat : AbstractSeat} {pairs : List (ℕ × ℕ)} →
      IsHeavyToTry seat.game seat.place pairs →
      HasFault (playing seat) (move_message pairs) errors.Over
  heavy_to_list : {seat : AbstractSeat} {pairs : List (ℕ × ℕ)} {to : AbstractPlace} →
      Legal seat.game seat.place pairs to →
      IsMover (moved_to seat to) →
      IsTooHard seat.game list_moves to →
      HasFault (playing seat) (move_message pairs) errors.Over
  memory : {stage : Stage} {message : AbstractMessage} →
      HasFault stage message errors.Memory
  no_seat :
      HasFault unnamed (refusal_message NoSeat) errors.NoSeat
