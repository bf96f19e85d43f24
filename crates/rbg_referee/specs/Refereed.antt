-- A whole match, from the text of its game and the events to the bytes of each seat.
use Rattle.std.specs.Prelude.{◌≡◌, ℕ, ◌<◌, ◌⊎◌, List, [], length, take, None}
use Rattle.rbg_rules.specs.Meaning.{AbstractGame}
use Rattle.rbg_game.specs.Loading.{Loads, IsRefused, IsMemory}
use Rattle.rbg_match.specs.declared.config.Config.{Config}
use Rattle.rbg_referee.specs.declared.error.RefereeError.{RefereeError}
use Rattle.rbg_referee.specs.declared.error.RefereeError.TheVariants.{Load, Config as ConfigRefused, Memory}
use Rattle.rbg_match.specs.Config.{IsWithinLimits}
use Rattle.rbg_match.specs.Deliveries.{Delivery, queued}
use Rattle.rbg_match.specs.Play.{AbstractPlay}
use Rattle.rbg_match.specs.PlayingOn.{seats_of}
use Rattle.rbg_script.specs.Events.{AbstractEvent}
use Rattle.rbg_match.specs.Transcript.{Transcript}
use Rattle.rbg_match.specs.Matches.{MatchState, Opens}

-- The text is a game's, the config is within its limits, and each seat has the bytes of a transcript of these events.
pub record IsRefereed (text : List ℕ) (config : Config) (now : ℕ) (events : List AbstractEvent)
    (outbox : List (List ℕ)) : Type 0 where
  pub game : AbstractGame
  pub loads : Loads text game
  pub lawful : IsWithinLimits config
  pub play : AbstractPlay
  pub outgoing : List Delivery
  pub transcript : Transcript game text config now events play outgoing
  pub bytes : outbox ≡ queued (seats_of game) outgoing

-- The same, and the match has not ended after these events.
pub record IsStillInPlay (text : List ℕ) (config : Config) (now : ℕ) (events : List AbstractEvent)
    (outbox : List (List ℕ)) : Type 0 where
  pub refereed : IsRefereed text config now events outbox
  pub going : refereed.play.outcome ≡ None

-- This number of events was handled, but not all of them. The match had not ended after them, and each seat has what a
-- match of those sends.
abbrev pub IsCutShort : (text : List ℕ) → Config → (now : ℕ) → List AbstractEvent → (done : ℕ) →
    (outbox : List (List ℕ)) → Type 0
IsCutShort text config now events done outbox =
    (done < length events) × IsStillInPlay text config now (take done events) outbox

-- Why a match that was made is not refereed to its end: memory ran out, and it was cut short.
abbrev pub StopsMatch : (text : List ℕ) → Config → (now : ℕ) → List AbstractEvent → RefereeError → Type 0
StopsMatch text config now events (Memory done outgoing) = IsCutShort text config now events done outgoing
StopsMatch text config now events _ = ⊥

-- Why a match is not refereed to its end.
--   Load: the text is no game's, and the fault that the error names is in it. The error is not out of memory.
--   Config: the text is a game's, and a number of the config is outside its limits.
--   Memory: either memory ran out before the match was made, the number is 0 and the outbox has no seat; or the match
--   was cut short after this number of events.
abbrev pub IsRefusedFor : (text : List ℕ) → Config → (now : ℕ) → List AbstractEvent → RefereeError → Type 0
IsRefusedFor text config now events (Load error) = IsRefused text error × ¬ IsMemory error
IsRefusedFor text config now events ConfigRefused = (game : AbstractGame) × Loads text game × ¬ IsWithinLimits config
IsRefusedFor text config now events (Memory done outgoing) =
    (done ≡ 0) × (outgoing ≡ []) ⊎ IsCutShort text config now events done outgoing

-- The text is a game's, and a match of that game opens.
pub record OpensText (text : List ℕ) (config : Config) (now : ℕ) (state : MatchState)
    (outbox : List (List ℕ)) : Type 0 where
  pub game : AbstractGame
  pub loads : Loads text game
  pub opens : Opens game text config now state outbox
