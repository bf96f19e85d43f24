-- A hall that goes on from its logs, as the code has it.
use Rattle.std.specs.Prelude.{◌≡◌, ℕ, Bool, true, false, List, [], ◌∷◌, ◌++◌, ◌+◌, All, Option, Some, None, is_some, length, map, option_map, replicate}
use Rattle.rbg_hall.specs.Failing.{HeldHall}
use Rattle.rbg_hall.specs.Halls.{begun_at}
use Rattle.rbg_hall.specs.Tables.{TableState}
use Rattle.rbg_match.specs.Matches.{MatchState}
use Rattle.rbg_match.specs.declared.config.Config.{Config}
use Rattle.rbg_network.specs.declared.seating.LinePlace.{LinePlace}
use Rattle.rbg_network.specs.declared.seating.LinePlace.TheVariants.{Known, New, Nobody}
use Rattle.rbg_script.specs.Scripts.{AbstractScript, script_of}
use Rattle.rbg_hosting.specs.Pasts.{AreLogs, HasConfig, config_from}
use Rattle.rbg_hosting.specs.declared.past.Past.{Past}
use Rattle.rbg_hosting.specs.internal.Prepared.{IsPrepared}

-- the script of a log, if its match has begun
abbrev pub past_in_code : Past → Option AbstractScript
past_in_code past = option_map script_of past.script

abbrev pub pasts_in : List Past → List (Option AbstractScript)
pasts_in pasts = map past_in_code pasts

-- for whom a line of a match of this number is that has begun: for nobody, if it has ended; else for one who had the seat before
abbrev pub place_by : (has_ended : Bool) → (number : ℕ) → LinePlace
place_by true number = Nobody
place_by false number = Known number

-- the same of any match; of one that hasn't begun it is for one who asks for the seat
abbrev pub place_for : Option MatchState → (number : ℕ) → LinePlace
place_for None number = New number
place_for (Some playing) number = place_by (is_some playing.play.outcome) number

-- for whom the lines are of the matches from this number on, which have so many players: each match has one for each of them
abbrev pub places_from : List TableState → (number : ℕ) → (players : List ℕ) → List LinePlace
places_from tables number [] = []
places_from tables number (many ∷ players) = replicate many (place_for (begun_at tables number) number) ++ places_from tables (number + 1) players

-- This is a new hall with a table for each description, these are the scripts of its logs and its players, and these are
-- places for the records of its matches.
pub record IsPreparedAgain {W : Type 0} (usual : Config) (descriptions : List (List ℕ)) (known : (number : ℕ) → Option (List ℕ))
    (wants : Bool) (hall : HeldHall W) (queues : List (List ℕ)) (pasts : List (Option AbstractScript)) (players : List ℕ)
    (noted : List Bool) : Type 0 where
  pub as_many : length pasts ≡ length descriptions
  pub logs : AreLogs known pasts
  pub same : All (HasConfig (config_from usual pasts)) pasts
  pub prepared : IsPrepared (config_from usual pasts) descriptions wants hall queues players noted
