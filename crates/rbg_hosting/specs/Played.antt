-- Matches that were played.
use Rattle.std.specs.Prelude.{ℕ, List}
use Rattle.rbg_game.specs.Loading.{Loads}
use Rattle.rbg_match.specs.Matches.{MatchState, HasHistory}

-- This is a match of the description's game, with its history.
pub record IsPlayedMatch (description : List ℕ) (state : MatchState) : Type 0 where
  pub loads : Loads description state.game
  pub history : HasHistory state
