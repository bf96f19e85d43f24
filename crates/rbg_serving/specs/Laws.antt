-- Laws of what is written of a match.
use Rattle.std.specs.Prelude.{ℕ, List}
use Rattle.rbg_rules.specs.Meaning.{AbstractGame}
use Rattle.rbg_match.specs.declared.config.Config.{Config}
use Rattle.rbg_script.specs.Events.{AbstractEvent}
use Rattle.rbg_match.specs.Matches.{MatchState, Opens, StepsAll}
use Rattle.rbg_serving.specs.Written.{Replays, Writes}

-- What is written is enough. A match opens, and events come to it: the ones that are written lead it to where all of
-- them do, and each seat is sent the same bytes.
abbrev pub WrittenIsEnough : Type 0
WrittenIsEnough =
    (game : AbstractGame) (text : List ℕ) (config : Config) (now : ℕ) →
    (opened new : MatchState) (before after : List (List ℕ)) (came lines : List AbstractEvent) →
    Opens game text config now opened before →
    Writes opened before came lines new after →
    (replayed : MatchState) × StepsAll opened before lines replayed after × Replays replayed new
