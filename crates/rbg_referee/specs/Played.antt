-- The match that events lead to, from the text of its game on.
use Rattle.std.specs.Prelude.{◌≡◌, ℕ, List}
use Rattle.rbg_match.specs.declared.config.Config.{Config}
use Rattle.rbg_script.specs.Events.{AbstractEvent}
use Rattle.rbg_match.specs.Matches.{MatchState, HasHistory, StepsAll}
use Rattle.rbg_referee.specs.Refereed.{IsRefereed, OpensText}

-- The text is a game's. A match of it opens, and these events in turn lead to this match and to these bytes of each
-- seat. The bytes are those of a transcript of the events, which has the match's game and ends in its state of play.
-- The match has its history, so its record is right.
pub record IsMatchOf (text : List ℕ) (config : Config) (now : ℕ) (events : List AbstractEvent)
    (state : MatchState) (outbox : List (List ℕ)) : Type 0 where
  pub opened : MatchState
  pub greeted : List (List ℕ)
  pub opens : OpensText text config now opened greeted
  pub steps : StepsAll opened greeted events state outbox
  pub refereed : IsRefereed text config now events outbox
  pub of_game : refereed.game ≡ state.game
  pub of_play : refereed.play ≡ state.play
  pub history : HasHistory state
