-- The history of a match: its moves are legal ones from the start to the place reached, each in its turn, and its
-- outcome fits the place and the moments.
use Rattle.std.specs.Prelude.{◌≡◌, ◌≢◌, ℕ, ◌+◌, ◌<◌, ◌≤◌, List, [], ◌∷◌, ◌++◌, length, Option, Some, None}
use Rattle.rbg_wire.specs.declared.outcome.Outcome.{Outcome}
use Rattle.rbg_wire.specs.declared.outcome.Outcome.TheVariants.{Finished, Time, Refusals, Gone, Heavy}
use Rattle.rbg_rules.specs.Meaning.{AbstractGame, start_of, AbstractPlace, Legal}
use Rattle.rbg_rules.specs.Moves as moves
use Rattle.rbg_match.specs.declared.config.Config.{Config}
use Rattle.rbg_match.specs.declared.made.Made.{Made}
use Rattle.rbg_match.specs.Config.{IsWithinLimits}
use Rattle.rbg_base.specs.Move.{most_pairs}
use Rattle.rbg_match.specs.Limits.{latest_moment}
use Rattle.rbg_match.specs.Play.{AbstractPlay, mover_of, scores_of}
use Rattle.rbg_match.specs.PlayingOn.{seats_of}

-- the place where play begins
abbrev pub start_place : AbstractGame → AbstractPlace
start_place game = record { state = start_of game; last = None }

-- These moves lead from the start to the place. Each is legal at the place where it is made, is made by the mover of
-- that place, and has at most 200 pairs.
pub data LeadsTo (game : AbstractGame) : List Made → AbstractPlace → Type 0 where
  none :
      LeadsTo game [] (start_place game)
  more : {moves : List Made} {place to : AbstractPlace} →
      LeadsTo game moves place →
      (made : Made) →
      made.player ≡ place.state.player →
      Legal game place made.pairs to →
      length made.pairs ≤ most_pairs →
      LeadsTo game (moves ++ made ∷ []) to

-- The moment is in the turn that began at another one: not before that, and before the turn is due.
abbrev pub IsInTurn : Config → (begun moment : ℕ) → Type 0
IsInTurn config begun moment = (begun ≤ moment) × (moment < begun + config.turn_ms)

-- In a match that began at a moment, each of these moves was made in its turn, which begins at the moment of the move
-- before it. The last number is the moment of the last move, and that of the beginning if there is no move.
--   by_keeper: the keeper moves when its turn begins.
--   by_player: a player moves before its turn is due.
pub data MadeInTurn (config : Config) (began : ℕ) : List Made → (last : ℕ) → Type 0 where
  nothing :
      MadeInTurn config began [] began
  by_keeper : {moves : List Made} {last : ℕ} →
      MadeInTurn config began moves last →
      (made : Made) →
      made.player ≡ 0 →
      made.at ≡ last →
      MadeInTurn config began (moves ++ made ∷ []) made.at
  by_player : {moves : List Made} {last : ℕ} →
      MadeInTurn config began moves last →
      (made : Made) →
      made.player ≢ 0 →
      IsInTurn config last made.at →
      MadeInTurn config began (moves ++ made ∷ []) made.at

-- A player is to move, and has a legal move.
pub record HasTurn (game : AbstractGame) (place : AbstractPlace) : Type 0 where
  pub player : place.state.player ≢ 0
  pub pairs : List (ℕ × ℕ)
  pub to : AbstractPlace
  pub legal : Legal game place pairs to

-- A player is to move and has a legal move, and its turn began at this moment.
abbrev pub HasTurnSince : AbstractGame → AbstractPlay → (begun : ℕ) → Type 0
HasTurnSince game play begun = HasTurn game play.place × (play.turn_began ≡ begun)

-- The outcome fits the place that play has reached, the moment of the last move and the maximum moment, which is that
-- of the end if there is one.
--   None: a player is to move and has a legal move. Its turn began with the last move and isn't due.
--   Finished: no move is legal, the scores are the players' values, and the match ended with the last move.
--   Time: the same as for None, but the turn is due. The time that is over is the mover's.
--   Refusals, Gone: the same as for None, and the seat that is named exists.
--   Heavy: at any place, in the turn that began with the last move.
abbrev pub FitsOutcome : AbstractGame → Config → AbstractPlay → (last moment : ℕ) → Option Outcome → Type 0
FitsOutcome game config play last moment None = HasTurnSince game play last × IsInTurn config last moment
FitsOutcome game config play last moment (Some (Finished scores)) =
    moves.Finished game play.place × (scores ≡ scores_of game play) × (moment ≡ last)
FitsOutcome game config play last moment (Some (Time player)) =
    HasTurnSince game play last × (player ≡ mover_of play) × (last + config.turn_ms ≤ moment)
FitsOutcome game config play last moment (Some (Refusals seat)) =
    HasTurnSince game play last × IsInTurn config last moment × (1 ≤ seat) × (seat ≤ seats_of game)
FitsOutcome game config play last moment (Some (Gone seat)) =
    HasTurnSince game play last × IsInTurn config last moment × (1 ≤ seat) × (seat ≤ seats_of game)
FitsOutcome game config play last moment (Some Heavy) = IsInTurn config last moment

-- The history of a state of play, if the match began at one moment and its maximum moment is another: the moves lead
-- from the start to the place, each was made in its turn, and the outcome fits. No moment is later than the latest that
-- is counted.
pub record IsHistory (game : AbstractGame) (config : Config) (began moment : ℕ) (play : AbstractPlay) : Type 0 where
  pub lawful : IsWithinLimits config
  pub counted : moment ≤ latest_moment
  pub leads : LeadsTo game play.made play.place
  pub last : ℕ
  pub in_turn : MadeInTurn config began play.made last
  pub fits : FitsOutcome game config play last moment play.outcome
