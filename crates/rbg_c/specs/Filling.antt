-- What becomes of a buffer of the caller.
use Rattle.std.specs.Prelude.{◌≡◌, ℕ, ◌<◌, List, ◌++◌, length, drop, Option, None, Some}
use Rattle.rbg_c.specs.States.{AbstractState}
use Rattle.rbg_c.specs.Results.{ok, empty, memory, small}

-- Items are put into a buffer, and it is told how many they are.
--   filled: they stand at its beginning, and the rest is as it was.
--   too_small: they are more than it has room for, and it is as it was.
pub data Fills {X : Type 0} (items before after : List X) (needed result : ℕ) : Type 0 where
  filled : after ≡ items ++ drop (length items) before → needed ≡ length items → result ≡ ok → Fills items before after needed result
  too_small : length before < length items → after ≡ before → needed ≡ length items → result ≡ small → Fills items before after needed result

-- A call that puts items of the state of a handle into a buffer.
--   nothing: there is no state, and the buffer is as it was.
--   there: the items are put, or they are too many. The state is as before.
pub data Fetches {X : Type 0} (items_of : AbstractState → List X) (before after : Option AbstractState) (old new : List X) (needed result : ℕ)
    : Type 0
  where
    nothing : before ≡ None → after ≡ None → new ≡ old → result ≡ empty → Fetches items_of before after old new needed result
    there : {state : AbstractState} →
        before ≡ Some state →
        after ≡ Some state →
        Fills (items_of state) old new needed result →
        Fetches items_of before after old new needed result

-- The same of items that may not be there. They are told by a property.
--   lacking: there are none, and the buffer is as it was.
pub data FillsSome {X : Type 0} (Is : List X → Type 0) (why : ℕ) (before after : List X) (needed result : ℕ) : Type 0 where
  lacking : ((items : List X) → ¬ Is items) → after ≡ before → result ≡ why → FillsSome Is why before after needed result
  told : {items : List X} → Is items → Fills items before after needed result → FillsSome Is why before after needed result

pub data FetchesSome {X : Type 0}
    (Is : AbstractState → List X → Type 0) (why : ℕ) (before after : Option AbstractState) (old new : List X) (needed result : ℕ)
    : Type 0
  where
    no_state : before ≡ None → after ≡ None → new ≡ old → result ≡ empty → FetchesSome Is why before after old new needed result
    fetched : {state : AbstractState} →
        before ≡ Some state →
        after ≡ Some state →
        FillsSome (Is state) why old new needed result →
        FetchesSome Is why before after old new needed result

-- Items that need memory to be made are put into a buffer.
--   made: they are put, or they are too many.
--   no_room: memory ran out, and the buffer is as it was.
pub data FillsMade {X : Type 0} (items before after : List X) (needed result : ℕ) : Type 0 where
  made : Fills items before after needed result → FillsMade items before after needed result
  no_room : after ≡ before → result ≡ memory → FillsMade items before after needed result

-- The same of items of the state of a handle.
--   holds_nothing: there is no state, and the buffer is as it was.
--   made_there: it is this one, and as before.
pub data FetchesMade {X : Type 0} (items_of : AbstractState → List X) (before after : Option AbstractState) (old new : List X) (needed result : ℕ)
    : Type 0
  where
    holds_nothing : before ≡ None → after ≡ None → new ≡ old → result ≡ empty → FetchesMade items_of before after old new needed result
    made_there : {state : AbstractState} →
        before ≡ Some state →
        after ≡ Some state →
        FillsMade (items_of state) old new needed result →
        FetchesMade items_of before after old new needed result
