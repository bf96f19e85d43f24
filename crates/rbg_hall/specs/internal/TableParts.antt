-- What a table of the code stands for.
use Rattle.std.specs.Prelude.{◌≡◌, ℕ, List, [], length, Option, Some, None}
use Rattle.rbg_wire.specs.Bytes.{LacksByte}
use Rattle.rbg_rules.specs.Meaning.{skip, AbstractGame}
use Rattle.rbg_match.specs.declared.config.Config.{Config}
use Rattle.rbg_match.specs.Config.{IsWithinLimits}
use Rattle.rbg_match.specs.Matches.{MatchState}
use Rattle.rbg_match.specs.PlayingOn.{seats_of}
use Rattle.rbg_hall.specs.declared.hall_table.Phase.{Phase}
use Rattle.rbg_hall.specs.declared.hall_table.Phase.TheVariants.{Waiting, Begun, Failed}

-- what stands for the game of a table whose match could not be made
abbrev pub no_game : AbstractGame
no_game = record {
  players = [];
  pieces = [];
  variables = [];
  bounds = [];
  directions = [];
  board = record { first = []; ways = [] };
  rules = skip;
}

abbrev pub game_in : Phase → AbstractGame
game_in (Waiting game) = game
game_in (Begun running) = running.game
game_in Failed = no_game

abbrev pub begun_in : Phase → Option MatchState
begun_in (Waiting game) = None
begun_in (Begun running) = Some running
begun_in Failed = None

-- There is a seat for each player. While a game waits, no byte of its text is zero and the config is within its limits.
abbrev pub IsSeated : (text : List ℕ) → Config → List (Option ℕ) → Phase → Type 0
IsSeated text config seats (Waiting game) = LacksByte 0 text × (IsWithinLimits config × (length seats ≡ seats_of game))
IsSeated text config seats (Begun running) = length seats ≡ seats_of running.game
IsSeated text config seats Failed = Unit {0}
