-- Moves of the keeper before a player's.
use Rattle.std.specs.Prelude.{◌≡◌, ◌≢◌, ℕ, zero, suc, ◌<◌, ◌≤◌, ◌⊎◌, List, length}
use Rattle.rbg_base.specs.Move.{IsMoveLength}
use Rattle.rbg_rules.specs.Meaning.{AbstractGame, IsHeavyToFind, AbstractPlace, Legal, Finished}
use Rattle.rbg_moves.specs.Limits.{most_keeper_moves}

-- So many moves of the keeper lead from one place to the other.
pub data KeeperMoves (game : AbstractGame) (from : AbstractPlace) : (many : ℕ) → (to : AbstractPlace) → Type 0 where
  none : KeeperMoves game from zero from
  more :
      {many : ℕ} {middle to : AbstractPlace} {pairs : List (ℕ × ℕ)} →
      KeeperMoves game from many middle →
      middle.state.player ≡ 0 →
      Legal game middle pairs to →
      IsMoveLength (length pairs) →
      KeeperMoves game from (suc many) to

-- Moves of the keeper, at most 1,000, lead from one place to the other.
pub record SomeKeeperMoves (game : AbstractGame) (from to : AbstractPlace) : Type 0 where
  pub many : ℕ
  pub few : many ≤ most_keeper_moves
  pub moves : KeeperMoves game from many to

-- The keeper's moves, at most 1,000, lead from one place to the other. There a player is to move, or play is finished
-- after fewer than 1,000: after 1,000 the keeper is asked no more.
pub record Settles (game : AbstractGame) (from to : AbstractPlace) : Type 0 where
  pub many : ℕ
  pub few : many ≤ most_keeper_moves
  pub moves : KeeperMoves game from many to
  pub rests : (to.state.player ≢ 0) ⊎ ((many < most_keeper_moves) × Finished game to)

-- The keeper's moves, fewer than 1,000, lead to a place where the keeper is to move, and the question for a legal move
-- is above the limits there.
pub record MeetsHeavy (game : AbstractGame) (from : AbstractPlace) : Type 0 where
  pub many : ℕ
  pub few : many < most_keeper_moves
  pub to : AbstractPlace
  pub moves : KeeperMoves game from many to
  pub keeper : to.state.player ≡ 0
  pub heavy : IsHeavyToFind game to

-- 1,000 moves of the keeper lead to a place where the keeper is to move.
pub record IsEndless (game : AbstractGame) (from : AbstractPlace) : Type 0 where
  pub to : AbstractPlace
  pub moves : KeeperMoves game from most_keeper_moves to
  pub keeper : to.state.player ≡ 0
