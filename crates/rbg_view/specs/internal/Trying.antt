-- What the calls tell that try moves.
use Rattle.std.specs.Prelude.{◌≡◌, ◌≢◌, ℕ, ◌⊎◌, List, Bool, true, false}
use Rattle.rbg_rules.specs.Meaning.{Finished, IsHeavyToTry}
use Rattle.rbg_view.specs.declared.move_readings.Reading.{Reading}
use Rattle.rbg_view.specs.Moving.{CanMakeNone, IsOfMover, KeeperMoves, Makes, MakesFirst, MakesNone, MakesOne}
use Rattle.rbg_moves.specs.Moving.{Moves}
use Rattle.rbg_moves.specs.Playing.{Playing}

-- Whether these pairs were a move. If not, nothing has changed.
abbrev pub TellsMoved : List (ℕ × ℕ) → (from to : Playing) → Bool → Type 0
TellsMoved pairs from to true = Moves from pairs to
TellsMoved pairs from to false = (to ≡ from) × ((other : Playing) → ¬ Moves from pairs other)

-- whether the move of a reading was made
abbrev pub TellsMade : Reading → (from to : Playing) → Bool → Type 0
TellsMade reading from to true = Makes from reading to
TellsMade reading from to false = (to ≡ from) × ((other : Playing) → ¬ Makes from reading other)

-- whether one of these was made
abbrev pub TellsFirst : List Reading → (from to : Playing) → Bool → Type 0
TellsFirst readings from to true = MakesFirst readings from to
TellsFirst readings from to false = (to ≡ from) × CanMakeNone from readings

-- whether one of these was made, with the keeper's moves before it
abbrev pub TellsOne : List Reading → (from to : Playing) → Bool → Type 0
TellsOne readings from to true = MakesOne readings from to
TellsOne readings from to false = MakesNone readings from to

-- whether the keeper has moved
abbrev pub TellsKeeper : (from to : Playing) → Bool → Type 0
TellsKeeper from to true = KeeperMoves from to
TellsKeeper from to false = (to ≡ from) × ((from.place.state.player ≢ 0) ⊎ Finished from.game from.place)

-- Nothing has changed, and whether these pairs are legal is a question above the limits.
abbrev pub IsHeavyPairs : List (ℕ × ℕ) → (from to : Playing) → Type 0
IsHeavyPairs pairs from to = (to ≡ from) × IsHeavyToTry from.game from.place pairs

-- the same for the move of a reading
abbrev pub IsHeavyReading : Reading → (from to : Playing) → Type 0
IsHeavyReading reading from to = (to ≡ from) × IsOfMover from reading × IsHeavyToTry from.game from.place reading.pairs
