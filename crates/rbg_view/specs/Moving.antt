-- How a game that is followed goes on: by the moves that lines may mean, and by the keeper's between them.
use Rattle.std.specs.Prelude.{◌≡◌, ◌≢◌, ℕ, ◌<◌, ◌⊎◌, List, [], ◌∷◌, ◌++◌, IfSome, All, Contains, Bool, true, false}
use Rattle.rbg_rules.specs.Meaning.{IsLegal, Finished, IsHeavyToFind, IsHeavyToTry}
use Rattle.rbg_moves.specs.Limits.{most_keeper_moves}
use Rattle.rbg_view.specs.declared.move_readings.Reading.{Reading}
use Rattle.rbg_moves.specs.Moving.{Moves}
use Rattle.rbg_moves.specs.Playing.{Playing}

-- The reading names no player but the one who is to move.
abbrev pub IsOfMover : Playing → Reading → Type 0
IsOfMover from reading = IfSome reading.player (λ player. player ≡ from.place.state.player)

-- The move of a reading is made: it is of whoever is to move, and legal.
pub record Makes (from : Playing) (reading : Reading) (to : Playing) : Type 0 where
  pub who : IsOfMover from reading
  pub moves : Moves from reading.pairs to

-- None of these can be made.
abbrev pub CanMakeNone : Playing → List Reading → Type 0
CanMakeNone from readings = All (λ reading. (to : Playing) → ¬ Makes from reading to) readings

-- The first of these that can be made is made.
pub record MakesFirst (readings : List Reading) (from to : Playing) : Type 0 where
  pub before : List Reading
  pub reading : Reading
  pub beyond : List Reading
  pub parts : readings ≡ before ++ reading ∷ beyond
  pub none : CanMakeNone from before
  pub makes : Makes from reading to

-- The keeper is to move, has made fewer than 1,000 moves in a row, and makes a legal one.
pub record KeeperMoves (from to : Playing) : Type 0 where
  pub keeper : from.place.state.player ≡ 0
  pub few : from.in_a_row < most_keeper_moves
  pub pairs : List (ℕ × ℕ)
  pub moves : Moves from pairs to

-- The keeper moves for as long as none of these can be made.
pub data Waits (readings : List Reading) (from : Playing) : Playing → Type 0 where
  at_once : Waits readings from from
  longer :
      {middle to : Playing} →
      Waits readings from middle →
      CanMakeNone middle readings →
      KeeperMoves middle to →
      Waits readings from to

-- The first of these that can be made is made, where the keeper has moved for as long as none could be.
pub record MakesOne (readings : List Reading) (from to : Playing) : Type 0 where
  pub at : Playing
  pub waits : Waits readings from at
  pub makes : MakesFirst readings at to

-- None can be made, and the keeper has no move more to make: a player is to move, or play is finished.
pub record MakesNone (readings : List Reading) (from to : Playing) : Type 0 where
  pub waits : Waits readings from to
  pub none : CanMakeNone to readings
  pub rests : (to.place.state.player ≢ 0) ⊎ Finished to.game to.place

-- None can be made, and the keeper is to move after 1,000 of its moves in a row.
pub record TiresKeeper (readings : List Reading) (from to : Playing) : Type 0 where
  pub waits : Waits readings from to
  pub none : CanMakeNone to readings
  pub keeper : to.place.state.player ≡ 0
  pub many : to.in_a_row ≡ most_keeper_moves

-- A question at the place is above the limits: whether the move of a reading is legal, or what the keeper can make.
pub data IsHeavyAt (at : Playing) (readings : List Reading) : Type 0 where
  to_try :
      {reading : Reading} →
      Contains readings reading →
      IsOfMover at reading →
      IsHeavyToTry at.game at.place reading.pairs →
      IsHeavyAt at readings
  to_find : at.place.state.player ≡ 0 → IsHeavyToFind at.game at.place → IsHeavyAt at readings

pub record MeetsHeavy (readings : List Reading) (from to : Playing) : Type 0 where
  pub waits : Waits readings from to
  pub heavy : IsHeavyAt to readings

-- After the last line the keeper moves until a player is to move or play is finished: then nobody has a move. Whether
-- there is a move is told.
pub record Settles (from to : Playing) (goes_on : Bool) : Type 0 where
  pub makes : MakesNone [] from to
  pub going : goes_on ≡ true → (pairs : List (ℕ × ℕ)) × IsLegal to.game to.place pairs
  pub over : goes_on ≡ false → Finished to.game to.place

-- It moves no further, since the question for a move is above the limits.
pub record SettlesHeavy (from to : Playing) : Type 0 where
  pub waits : Waits [] from to
  pub heavy : IsHeavyToFind to.game to.place
