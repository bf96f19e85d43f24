-- A state of a game: where play stands, and the places before.
use Rattle.std.specs.Prelude.{◌≡◌, ℕ, List, [], ◌∷◌, ◌++◌, length, slice_get, IfSome, Option, Some, None}
use Rattle.rbg_rules.specs.Meaning.{AbstractGame, AbstractPlace, IsPlaceOf, Legal}
use Rattle.rbg_questions.specs.Packing.{packed_of}
use Rattle.rbg_questions.specs.Places.{AreLegalMoves, AreReached}
use Rattle.rbg_questions.specs.Sessions.{Leads}

-- A state: its game, the place from which its moves count, the places before, from each of which a move of a player was
-- made, and the place where play stands. The moves count from where the rules begin, until a place is unpacked. `found` are
-- the legal moves there, where they were asked for.
pub record AbstractState : Type 0 where
  pub game : AbstractGame
  pub origin : AbstractPlace
  pub before : List AbstractPlace
  pub place : AbstractPlace
  pub found : Option (List (List (ℕ × ℕ)))

-- What holds of each state: play has led from its origin to its place through those before, and what was found are its moves.
pub record IsState (state : AbstractState) : Type 0 where
  pub reached : AreReached state.game state.origin state.before state.place
  pub found : IfSome state.found (AreLegalMoves state.game state.place)

-- the state at that place from which no move can be undone
abbrev pub beginning_at : AbstractGame → (origin place : AbstractPlace) → AbstractState
beginning_at game origin place = record { game = game; origin = origin; before = []; place = place; found = None }

-- a copy of a state: no move can be undone there
abbrev pub copy_of : AbstractState → AbstractState
copy_of state = beginning_at state.game state.origin state.place

-- the state after a move to that place
abbrev pub moved_to : AbstractState → AbstractPlace → AbstractState
moved_to state to =
    record { game = state.game; origin = state.origin; before = state.before ++ state.place ∷ []; place = to; found = None }

-- The move of these pairs was made, and the keeper's moves after it.
pub record Makes (old : AbstractState) (pairs : List (ℕ × ℕ)) (new : AbstractState) : Type 0 where
  pub leads : Leads old.game old.place pairs new.place
  pub is : new ≡ moved_to old new.place

-- The move of these pairs was made as a referee passes it on: with no move of the keeper after it. None can be undone then.
pub record Hears (old : AbstractState) (pairs : List (ℕ × ℕ)) (new : AbstractState) : Type 0 where
  pub legal : Legal old.game old.place pairs new.place
  pub is : new ≡ beginning_at old.game old.origin new.place

-- These are the pairs of the move that stands at this index among those that were found.
pub record IsFoundAt (state : AbstractState) (index : ℕ) (pairs : List (ℕ × ℕ)) : Type 0 where
  pub moves : List (List (ℕ × ℕ))
  pub found : state.found ≡ Some moves
  pub there : slice_get moves index ≡ Some pairs

-- The move that stands at this index among those that were found was made.
pub record MakesFound (old : AbstractState) (index : ℕ) (new : AbstractState) : Type 0 where
  pub moves : List (List (ℕ × ℕ))
  pub found : old.found ≡ Some moves
  pub pairs : List (ℕ × ℕ)
  pub there : slice_get moves index ≡ Some pairs
  pub makes : Makes old pairs new

-- The last move of a player was undone.
pub record Undoes (old new : AbstractState) : Type 0 where
  pub game : new.game ≡ old.game
  pub origin : new.origin ≡ old.origin
  pub places : old.before ≡ new.before ++ new.place ∷ []
  pub found : new.found ≡ None

-- The legal moves were found: so many.
pub record FindsMoves (old : AbstractState) (count : ℕ) (new : AbstractState) : Type 0 where
  pub moves : List (List (ℕ × ℕ))
  pub are : AreLegalMoves old.game old.place moves
  pub many : count ≡ length moves
  pub is : new ≡ record { game = old.game; origin = old.origin; before = old.before; place = old.place; found = Some moves }

-- The state is at the place of these bytes, in the game of the old one. Its moves count from there.
pub record Unpacks (old : AbstractState) (bytes : List ℕ) (new : AbstractState) : Type 0 where
  pub fits : IsPlaceOf old.game new.place
  pub packed : bytes ≡ packed_of new.place
  pub is : new ≡ beginning_at old.game new.place new.place
