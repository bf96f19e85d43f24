-- What always holds of the state of play and of the streams of a match.
use Rattle.std.specs.Prelude.{◌≡◌, ◌≤◌, List, length, None, Bool, false, All}
use Rattle.rbg_rules.specs.Meaning.{AbstractGame, IsPlaceOf}
use Rattle.rbg_wire.specs.Streams.{Stream}
use Rattle.rbg_match.specs.Limits.{latest_moment, most_refusals}
use Rattle.rbg_match.specs.internal.Inboxes.{AreReady}
use Rattle.rbg_match.specs.Play.{AbstractPlay}

-- The state of play is one of the game: its place is, the turn began at a counted moment, and each seat has a count of
-- refusals, which is at most 100 while the match lasts.
pub record IsPlayOf (game : AbstractGame) (play : AbstractPlay) : Type 0 where
  pub place : IsPlaceOf game play.place
  pub began : play.turn_began ≤ latest_moment
  pub counts : length play.refusals ≡ length game.players
  pub few : play.outcome ≡ None → All (λ count. count ≤ most_refusals) play.refusals

-- What always holds of a match, apart from its referee: there is an inbox for each seat, and unless the match failed,
-- no inbox holds a complete item.
pub record IsMatch (game : AbstractGame) (inboxes : List Stream) (failed : Bool) : Type 0 where
  pub seats : length inboxes ≡ length game.players
  pub ready : failed ≡ false → AreReady inboxes
