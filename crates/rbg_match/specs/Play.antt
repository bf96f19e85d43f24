-- The state of play: how far play has come, apart from streams and the clock.
use Rattle.std.specs.Prelude.{
  ℕ,
  ◌+◌,
  ◌-◌,
  List,
  [],
  ◌∷◌,
  ◌++◌,
  length,
  take,
  replicate,
  slice_index,
  slice_set,
  Option,
  Some,
  None,
}
use Rattle.rbg_wire.specs.declared.outcome.Outcome.{Outcome}
use Rattle.rbg_rules.specs.Meaning.{AbstractGame, start_of, AbstractPlace}
use Rattle.rbg_match.specs.declared.config.Config.{Config}
use Rattle.rbg_match.specs.declared.made.Made.{Made}

-- The place, the moment when the turn began, how many messages of each seat were refused (seat 1 first), the moves
-- made, and the outcome once the match has ended.
pub record AbstractPlay : Type 0 where
  pub place : AbstractPlace
  pub turn_began : ℕ
  pub refusals : List ℕ
  pub made : List Made
  pub outcome : Option Outcome

-- the current player; 0 is the keeper
abbrev pub mover_of : AbstractPlay → ℕ
mover_of play = play.place.state.player

-- the players' variables, in order: the players are the first variables
abbrev pub scores_of : AbstractGame → AbstractPlay → List ℕ
scores_of game play = take (length game.players) play.place.state.values

-- a turn is due when it has lasted for the turn time
abbrev pub due_of : Config → AbstractPlay → ℕ
due_of config play = play.turn_began + config.turn_ms

-- how many messages of a seat were refused
abbrev pub refusals_of : AbstractPlay → (seat : ℕ) → ℕ
refusals_of play seat = slice_index play.refusals (seat - 1)

-- the state of play at the start of a match
abbrev pub play_at_start : AbstractGame → (began : ℕ) → AbstractPlay
play_at_start game began = record {
  place = record { state = start_of game; last = None };
  turn_began = began;
  refusals = replicate (length game.players) 0;
  made = [];
  outcome = None;
}

-- the match has ended with that outcome
abbrev pub ended : AbstractPlay → Outcome → AbstractPlay
ended play outcome = record play { outcome = Some outcome }

-- the mover has made the move of these pairs at that moment, and the move leads to that place
abbrev pub moved : AbstractPlay → (moment : ℕ) → List (ℕ × ℕ) → AbstractPlace → AbstractPlay
moved play moment pairs to = record play {
  place = to;
  made = play.made ++ record { player = mover_of play; at = moment; pairs = pairs } ∷ [];
}

-- one more message of the seat was refused
abbrev pub refused : AbstractPlay → (seat : ℕ) → AbstractPlay
refused play seat = record play { refusals = slice_set play.refusals (seat - 1) (refusals_of play seat + 1) }

-- the turn of the current player begins at that moment
abbrev pub turn_begun : AbstractPlay → (moment : ℕ) → AbstractPlay
turn_begun play moment = record play { turn_began = moment }
