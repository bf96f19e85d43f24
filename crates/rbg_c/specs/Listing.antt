-- All legal moves of a state in one buffer of numbers.
use Rattle.std.specs.Prelude.{◌≡◌, ℕ, List, [], ◌∷◌, length, Option, None, Some}
use Rattle.std.specs.List.{flat_map}
use Rattle.rbg_questions.specs.Places.{IsUnlisted}
use Rattle.rbg_c.specs.States.{AbstractState, FindsMoves}
use Rattle.rbg_c.specs.Filling.{FillsMade}
use Rattle.rbg_c.specs.Results.{Refuses, empty}

-- a pair as two numbers, and a move as numbers: how many pairs it has, and then these
abbrev pub numbers_of_pair : ℕ × ℕ → List ℕ
numbers_of_pair pair = pair.0 ∷ pair.1 ∷ []

abbrev pub numbers_of_move : List (ℕ × ℕ) → List ℕ
numbers_of_move pairs = length pairs ∷ flat_map numbers_of_pair pairs

abbrev pub numbers_of_moves : List (List (ℕ × ℕ)) → List ℕ
numbers_of_moves moves = flat_map numbers_of_move moves

-- A call that finds the legal moves of the state of a handle, and puts them into a buffer.
--   nothing: there is no state, and the buffer is as it was.
--   listed: they are found, and put there as numbers, or they are too many, or memory ran out.
--   unlisted: the question was given up. The state and the buffer are as before.
pub data ListsMoves (before after : Option AbstractState) (old new : List ℕ) (needed result : ℕ) : Type 0 where
  nothing : before ≡ None → after ≡ None → new ≡ old → result ≡ empty → ListsMoves before after old new needed result
  listed : {state found : AbstractState} {count : ℕ} →
      before ≡ Some state →
      after ≡ Some found →
      (finds : FindsMoves state count found) →
      FillsMade (numbers_of_moves finds.moves) old new needed result →
      ListsMoves before after old new needed result
  unlisted : {state : AbstractState} →
      before ≡ Some state →
      after ≡ Some state →
      new ≡ old →
      Refuses (IsUnlisted state.game state.place) result →
      ListsMoves before after old new needed result
