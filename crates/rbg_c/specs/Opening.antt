-- What becomes of a handle in which a game is opened, and of one that gets a copy.
use Rattle.std.specs.Prelude.{◌≡◌, ◌≢◌, ℕ, List, Option, None, Some}
use Rattle.rbg_rules.specs.Meaning.{AbstractGame, AbstractPlace, IsPlaceOf}
use Rattle.rbg_moves.specs.Settling.{Settles}
use Rattle.rbg_game.specs.Loading.{Loads, IsMemory, IsRefused}
use Rattle.rbg_game.specs.declared.error.LoadError.{LoadError}
use Rattle.rbg_questions.specs.Packing.{packed_of}
use Rattle.rbg_moves.specs.Starting.{start_place}
use Rattle.rbg_c.specs.States.{AbstractState, Unpacks, beginning_at, copy_of}
use Rattle.rbg_c.specs.Results.{ok, empty, memory, no_place, layer_of}

-- What is said of a text.
--   is_game: it is the description of a game.
--   no_memory: memory ran out.
--   refused: it is none, by the fault of this layer.
pub data Checks (text : List ℕ) (result : ℕ) : Type 0 where
  is_game : {game : AbstractGame} → Loads text game → result ≡ ok → Checks text result
  no_memory : result ≡ memory → Checks text result
  refused : {error : LoadError} → IsRefused text error → ¬ IsMemory error → result ≡ layer_of error → Checks text result

-- A state is kept in a handle: it is there, or memory ran out and all is as before.
pub data Keeps (state : AbstractState) (before after : Option AbstractState) (result : ℕ) : Type 0 where
  kept : after ≡ Some state → result ≡ ok → Keeps state before after result
  lost : after ≡ before → result ≡ memory → Keeps state before after result

-- What becomes of a handle in which the game of a text is opened.
--   opened: the state to which the keeper's first moves lead is kept.
--   no_game: the text is no game's, or memory ran out.
--   not_begun: the text is a game's, whose first moves can't be told.
pub data Opens (text : List ℕ) (before after : Option AbstractState) (result : ℕ) : Type 0 where
  opened : {game : AbstractGame} {state : AbstractState} →
      Loads text game →
      state ≡ beginning_at game (start_place game) state.place →
      Settles game (start_place game) state.place →
      Keeps state before after result →
      Opens text before after result
  no_game : Checks text result → result ≢ ok → after ≡ before → Opens text before after result
  not_begun : {game : AbstractGame} → Loads text game → result ≢ ok → after ≡ before → Opens text before after result

-- What becomes of a handle in which the game of a text is opened where its rules begin.
--   begun: the state there is kept. The keeper's first moves aren't made.
--   no_beginning: the text is no game's, or memory ran out.
pub data Begins (text : List ℕ) (before after : Option AbstractState) (result : ℕ) : Type 0 where
  begun : {game : AbstractGame} → Loads text game → Keeps (beginning_at game (start_place game) (start_place game)) before after result → Begins text before after result
  no_beginning : Checks text result → result ≢ ok → after ≡ before → Begins text before after result

-- What becomes of a handle that gets a copy of what another one holds.
--   nothing: that one holds nothing, and all is as before.
--   copied: a copy of its state is kept.
pub data Copies (from before after : Option AbstractState) (result : ℕ) : Type 0 where
  nothing : from ≡ None → after ≡ before → result ≡ empty → Copies from before after result
  copied : {state : AbstractState} → from ≡ Some state → Keeps (copy_of state) before after result → Copies from before after result

-- What becomes of a handle in which a place of the game of a state is unpacked.
--   unpacked: the state at the place of the bytes is kept.
--   not_packed: no place of the game is packed so, and all is as before.
--   no_room: memory ran out, and all is as before.
pub data UnpacksAt (state : AbstractState) (bytes : List ℕ) (before after : Option AbstractState) (result : ℕ) : Type 0 where
  unpacked : {new : AbstractState} → Unpacks state bytes new → Keeps new before after result → UnpacksAt state bytes before after result
  not_packed :
      ((place : AbstractPlace) → IsPlaceOf state.game place → bytes ≢ packed_of place) →
      after ≡ before →
      result ≡ no_place →
      UnpacksAt state bytes before after result
  no_room : after ≡ before → result ≡ memory → UnpacksAt state bytes before after result

-- The same of the state that another handle holds.
--   no_state: it holds nothing, and all is as before.
--   there: it holds this state.
pub data UnpacksFrom (from : Option AbstractState) (bytes : List ℕ) (before after : Option AbstractState) (result : ℕ) : Type 0 where
  no_state : from ≡ None → after ≡ before → result ≡ empty → UnpacksFrom from bytes before after result
  there : {state : AbstractState} → from ≡ Some state → UnpacksAt state bytes before after result → UnpacksFrom from bytes before after result
