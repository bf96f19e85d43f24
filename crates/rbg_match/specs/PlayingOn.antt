-- How play continues, until a player is to move or the match has ended.
use Rattle.std.specs.Prelude.{◌≡◌, ◌≢◌, ℕ, suc, ◌<◌, ◌≤◌, List, [], ◌++◌, length}
use Rattle.rbg_wire.specs.declared.outcome.Outcome.TheVariants.{Finished, Heavy}
use Rattle.rbg_wire.specs.Messages.{move_message, end_message}
use Rattle.rbg_rules.specs.Meaning.{AbstractGame, AbstractPlace, Legal, IsHeavyToFind}
use Rattle.rbg_rules.specs.Moves as moves
use Rattle.rbg_match.specs.Deliveries.{Delivery, to_each}
use Rattle.rbg_moves.specs.Limits.{most_keeper_moves}
use Rattle.rbg_base.specs.Move.{most_pairs}
use Rattle.rbg_match.specs.Play.{AbstractPlay, mover_of, scores_of, ended, moved, turn_begun}

-- a seat for each player
abbrev pub seats_of : AbstractGame → ℕ
seats_of game = length game.players

-- After that many keeper moves in a row a legal move is looked for: a player is to move, or the keeper may move once
-- more.
abbrev pub MayBeAsked : (in_a_row : ℕ) → AbstractPlay → Type 0
MayBeAsked in_a_row play = mover_of play ≡ 0 → in_a_row < most_keeper_moves

-- After that many keeper moves in a row, at this moment, play continues from one state to another, and these messages
-- are sent.
--   endless: the keeper is to move and has moved 1,000 times in a row. The match ends with `E4`, whatever else holds.
--   heavy: the question for a legal move is above the limits. The match ends with `E4`.
--   finished: no move is legal. The match ends with `E0` and the players' scores.
--   keeper: the keeper makes a legal move of at most 200 pairs, which is sent to every seat, and play continues.
--   turn: a player is to move and has a legal move. Its turn begins.
pub data PlaysOn (game : AbstractGame) (moment : ℕ) :
    (in_a_row : ℕ) → (before after : AbstractPlay) → (outgoing : List Delivery) → Type 0 where
  endless : {n : ℕ} {play : AbstractPlay} →
      mover_of play ≡ 0 →
      most_keeper_moves ≤ n →
      PlaysOn game moment n play (ended play Heavy) (to_each (seats_of game) (end_message Heavy))
  heavy : {n : ℕ} {play : AbstractPlay} →
      MayBeAsked n play →
      IsHeavyToFind game play.place →
      PlaysOn game moment n play (ended play Heavy) (to_each (seats_of game) (end_message Heavy))
  finished : {n : ℕ} {play : AbstractPlay} →
      MayBeAsked n play →
      moves.Finished game play.place →
      PlaysOn game moment n play
      (ended play (Finished (scores_of game play)))
      (to_each (seats_of game) (end_message (Finished (scores_of game play))))
  keeper : {n : ℕ} {play after : AbstractPlay} {pairs : List (ℕ × ℕ)} {to : AbstractPlace} {more : List Delivery} →
      mover_of play ≡ 0 →
      n < most_keeper_moves →
      Legal game play.place pairs to →
      length pairs ≤ most_pairs →
      PlaysOn game moment (suc n) (moved play moment pairs to) after more →
      PlaysOn game moment n play after (to_each (seats_of game) (move_message pairs) ++ more)
  turn : {n : ℕ} {play : AbstractPlay} {pairs : List (ℕ × ℕ)} {to : AbstractPlace} →
      mover_of play ≢ 0 →
      Legal game play.place pairs to →
      PlaysOn game moment n play (turn_begun play moment) []
