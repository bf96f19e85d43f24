-- The lines with which a record begins: its version and, in version 2, the names of the players and the start.
use Rattle.std.specs.Prelude.{ℕ, ◌<◌, ◌^◌, IsTrue, List, ◌++◌, length, codes, decimal, All}
use Rattle.std.specs.List.{flat_map}
use Rattle.rbg_base.specs.Names.{is_name}
use Rattle.rbg_wire.specs.Reads.{IsSpelling}
use Rattle.rbg_record.specs.declared.heading.Version.{Version}
use Rattle.rbg_record.specs.declared.heading.Version.TheVariants.{One, Two}
use Rattle.rbg_record.specs.declared.heading.Start.{Start}

unfoldable pub version_text : Version → List ℕ
version_text One = codes "rbg 1"
version_text Two = codes "rbg 2"

-- the word `players`, and the names with a space before each
abbrev pub players_text : List (List ℕ) → List ℕ
players_text names = codes "players" ++ flat_map (λ name. codes " " ++ name) names

-- players that have a spelling: at least one, each by a name of the language
pub record HaveNames (names : List (List ℕ)) : Type 0 where
  pub some : 0 < length names
  pub named : All (λ name. IsTrue (is_name name)) names

-- the time for a turn, and the moment at which the match began
unfoldable pub start_text : Start → List ℕ
start_text start = codes "start " ++ decimal start.turn_ms ++ codes " " ++ decimal start.now

-- both are numbers below 2 ^ 64
abbrev pub StartHasSpelling : Start → Type 0
StartHasSpelling start = (start.turn_ms < 2 ^ 64) × (start.now < 2 ^ 64)

-- the text is that of the players with these names
abbrev pub SpellsPlayers : List ℕ → List (List ℕ) → Type 0
SpellsPlayers = IsSpelling HaveNames players_text

-- the text is that of this start
abbrev pub SpellsStart : List ℕ → Start → Type 0
SpellsStart = IsSpelling StartHasSpelling start_text
