-- Which records are right.
use Rattle.std.specs.Prelude.{◌≡◌, ℕ, ◌≤◌, List, [], map, Option, Some, None}
use Rattle.rbg_wire.specs.declared.outcome.Outcome.{Outcome}
use Rattle.rbg_wire.specs.declared.outcome.Outcome.TheVariants.{Finished, Time, Refusals, Gone, Heavy}
use Rattle.rbg_rules.specs.Meaning.{AbstractGame, AbstractPlace}
use Rattle.rbg_rules.specs.Moves as moves
use Rattle.rbg_match.specs.declared.config.Config.{Config}
use Rattle.rbg_match.specs.declared.made.Made.{Made}
use Rattle.rbg_match.specs.History.{LeadsTo, HasTurn, IsHistory}
use Rattle.rbg_match.specs.Play.{AbstractPlay, scores_of}
use Rattle.rbg_match.specs.PlayingOn.{seats_of}
use Rattle.rbg_record.specs.Records.{PlainMove, PlainRecord, TimedRecord, AbstractRecord, plain, timed, Spells}

-- the state of play of these moves and this outcome, at a place whose turn began at a moment
abbrev pub recorded_play : List Made → Option Outcome → AbstractPlace → (turn_began : ℕ) → AbstractPlay
recorded_play moves outcome place turn_began = record {
  place = place;
  turn_began = turn_began;
  refusals = [];
  made = moves;
  outcome = outcome;
}

-- a config with this time for a turn: a record doesn't have the number of refused messages that are allowed
abbrev pub turn_config : (turn_ms : ℕ) → Config
turn_config turn_ms = record { turn_ms = turn_ms; refusals = 0 }

-- A record of version 2 is right if the players are the game's and it has the history of a match: the moves are legal
-- ones from the start, each in its turn; the outcome fits the place and the moments; the time for a turn is within its
-- limits; and no moment is later than the latest that is counted.
pub record IsRightTimed (game : AbstractGame) (told : TimedRecord) : Type 0 where
  pub players : told.players ≡ game.players
  pub place : AbstractPlace
  pub turn_began : ℕ
  pub history :
      IsHistory game (turn_config told.start.turn_ms) told.start.now told.moment
      (recorded_play told.moves told.outcome place turn_began)

-- the move as one that was made at a moment
abbrev pub made_at : (at : ℕ) → PlainMove → Made
made_at at move = record { player = move.player; at = at; pairs = move.pairs }

-- The outcome fits the place, whatever the moments are.
--   None: a player is to move, and has a legal move.
--   Finished: no move is legal, and the scores are the players' values.
--   Time: the same as for None, and the player that is named is the mover.
--   Refusals, Gone: the same as for None, and the player that is named is one of the game.
--   Heavy: at any place.
abbrev pub FitsPlace : AbstractGame → AbstractPlace → Option Outcome → Type 0
FitsPlace game place None = HasTurn game place
FitsPlace game place (Some (Finished scores)) =
    moves.Finished game place × (scores ≡ scores_of game (recorded_play [] None place 0))
FitsPlace game place (Some (Time player)) = HasTurn game place × (player ≡ place.state.player)
FitsPlace game place (Some (Refusals player)) = HasTurn game place × (1 ≤ player) × (player ≤ seats_of game)
FitsPlace game place (Some (Gone player)) = HasTurn game place × (1 ≤ player) × (player ≤ seats_of game)
FitsPlace game place (Some Heavy) = Unit {0}

-- A record of version 1 is right if the moves are legal ones from the start to a place, each by the mover, and the
-- outcome fits that place. Moments don't matter: each move counts as one of moment 0, and `LeadsTo` ignores moments.
pub record IsRightPlain (game : AbstractGame) (told : PlainRecord) : Type 0 where
  pub place : AbstractPlace
  pub leads : LeadsTo game (map (made_at 0) told.moves) place
  pub fits : FitsPlace game place told.outcome

abbrev pub IsRight : AbstractGame → AbstractRecord → Type 0
IsRight game (plain told) = IsRightPlain game told
IsRight game (timed told) = IsRightTimed game told

-- The bytes are those of a record that is right.
pub record IsRightRecord (game : AbstractGame) (bytes : List ℕ) : Type 0 where
  pub told : AbstractRecord
  pub spells : Spells bytes told
  pub right : IsRight game told
