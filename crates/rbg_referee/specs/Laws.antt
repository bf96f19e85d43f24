-- Laws of a match that is refereed.
use Rattle.std.specs.Prelude.{◌≡◌, ℕ, List}
use Rattle.rbg_match.specs.declared.config.Config.{Config}
use Rattle.rbg_script.specs.Events.{AbstractEvent}
use Rattle.rbg_match.specs.Laws.{IsHeavyEnd, keeper_pairs}
use Rattle.rbg_referee.specs.Refereed.{IsRefereed}

-- A text, a config, a first moment and events have one outbox, if the keeper's moves have the same pairs and no match
-- ends because a question is above the limits.
abbrev pub OneOutbox : Type 0
OneOutbox =
    (text : List ℕ) (config : Config) (now : ℕ) (events : List AbstractEvent) (outbox outbox' : List (List ℕ)) →
    (one : IsRefereed text config now events outbox) →
    (other : IsRefereed text config now events outbox') →
    ¬ IsHeavyEnd one.play →
    ¬ IsHeavyEnd other.play →
    keeper_pairs one.play.made ≡ keeper_pairs other.play.made →
    outbox ≡ outbox'
