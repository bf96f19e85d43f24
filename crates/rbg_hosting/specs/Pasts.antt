-- What the logs of a hall's matches hold, and what a hall that goes on from them hears before all else.
use Rattle.std.specs.Prelude.{◌≡◌, ◌+◌, ◌-◌, ◌&&◌, nat_le, ℕ, zero, suc, List, [], ◌∷◌, ◌++◌, Option, Some, None, length, map, codes, decimal, if◌then◌else◌}
use Rattle.rbg_console.specs.Files.{MayBe}
use Rattle.rbg_script.specs.Events.{AbstractEvent, piece, end_of_stream, moment_alone}
use Rattle.rbg_hall.specs.Halls.{AbstractTable}
use Rattle.rbg_match.specs.PlayingOn.{seats_of}
use Rattle.rbg_match.specs.declared.config.Config.{Config}
use Rattle.rbg_referee.specs.Scripts.{config_for}
use Rattle.rbg_script.specs.Scripts.{AbstractScript, SpellsScript}
use Rattle.rbg_serving.specs.Cutting.{AreWholeLines}
use Rattle.rbg_wire.specs.Messages.{join_message, spelling}

-- the name of the log of the match of this number
abbrev pub log_name : (name : List ℕ) → (number : ℕ) → List ℕ
log_name name number = name ++ (codes "." ++ decimal number)

-- What a log holds, of which these bytes are known.
--   not_begun: no whole line: the match is taken not to have begun.
--   begun: the lines of a script. What stands after the last line feed is left out.
pub data IsLogOf (known : Option (List ℕ)) : Option AbstractScript → Type 0 where
  not_begun : (bytes : List ℕ)
      → MayBe known bytes
      → AreWholeLines bytes []
      → IsLogOf known None
  begun : (bytes whole : List ℕ) (script : AbstractScript)
      → MayBe known bytes
      → AreWholeLines bytes whole
      → SpellsScript whole script
      → IsLogOf known (Some script)

-- What the first logs hold, and then one more.
pub data AreLogs (known : (number : ℕ) → Option (List ℕ)) : List (Option AbstractScript) → Type 0 where
  no_log : AreLogs known []
  one_more : (pasts : List (Option AbstractScript)) (past : Option AbstractScript)
      → AreLogs known pasts
      → IsLogOf (known (length pasts + 1)) past
      → AreLogs known (pasts ++ past ∷ [])

-- the config of a hall: that of the first log of a match that has begun, and this one if none has
abbrev pub config_from : (usual : Config) → List (Option AbstractScript) → Config
config_from usual [] = usual
config_from usual (None ∷ pasts) = config_from usual pasts
config_from usual (Some script ∷ pasts) = config_for script.config

-- the match of this log has this config, if it has begun
abbrev pub HasConfig : Config → Option AbstractScript → Type 0
HasConfig config None = Unit {0}
HasConfig config (Some script) = config_for script.config ≡ config

-- the line of a seat of a match with so many, of which the first one has this line, if there is such a seat
abbrev pub line_on : (line players seat : ℕ) → Option ℕ
line_on line players seat = if nat_le 1 seat && nat_le seat players then Some (line + (seat - 1)) else None

-- a line sends these bytes; if there is no such line, the first one of the match sends none
abbrev pub sent_on : (first at : ℕ) → (line : Option ℕ) → (bytes : List ℕ) → AbstractEvent
sent_on first at (Some line) bytes = piece line at bytes
sent_on first at None bytes = piece first at []

-- a line ends, or the same
abbrev pub ended_on : (first at : ℕ) → (line : Option ℕ) → AbstractEvent
ended_on first at (Some line) = end_of_stream line at
ended_on first at None = piece first at []

-- What a hall hears of an event of a script, where the seats of its match have these lines. A moment is heard as one at
-- which the first of them sends no bytes, so that no other match hears it.
abbrev pub heard_on : (line players : ℕ) → AbstractEvent → AbstractEvent
heard_on line players (piece seat at bytes) = sent_on line at (line_on line players seat) bytes
heard_on line players (end_of_stream seat at) = ended_on line at (line_on line players seat)
heard_on line players (moment_alone at) = piece line at []

-- each of so many lines, from this one on, sends these bytes
abbrev pub sent_by_each : (line at : ℕ) → (bytes : List ℕ) → (players : ℕ) → List AbstractEvent
sent_by_each line at bytes zero = []
sent_by_each line at bytes (suc players) = sent_by_each line at bytes players ++ piece (line + players) at bytes ∷ []

-- what a hall hears of a script: the players ask for their seats with these bytes, at the moment at which the match began,
-- and then each event of the script is heard
abbrev pub script_from : (asked : List ℕ) → (line players : ℕ) → AbstractScript → List AbstractEvent
script_from asked line players script = sent_by_each line script.config.now asked players ++ map (heard_on line players) script.events

-- what a hall hears of the log of the match of this number: nothing, if it has not begun
abbrev pub past_of : (number line players : ℕ) → Option AbstractScript → List AbstractEvent
past_of number line players None = []
past_of number line players (Some script) = script_from (spelling (join_message number)) line players script

-- What a hall hears of the logs of the matches from this number on, which have so many players each. Each match has the
-- lines after those of the one before it.
abbrev pub past_from : (number line : ℕ) → (players : List ℕ) → List (Option AbstractScript) → List AbstractEvent
past_from number line players [] = []
past_from number line [] (past ∷ pasts) = []
past_from number line (many ∷ players) (past ∷ pasts) =
    past_of number line many past ++ past_from (number + 1) (line + many) players pasts

-- how many players the match of each table has
abbrev pub players_of : List AbstractTable → List ℕ
players_of tables = map (λ (table : AbstractTable). seats_of table.game) tables

-- what a hall with these tables hears of its logs
abbrev pub past_in : List AbstractTable → List (Option AbstractScript) → List AbstractEvent
past_in tables pasts = past_from 1 0 (players_of tables) pasts
