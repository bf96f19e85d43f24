-- A semi-state that changes in place, and what can be taken back.
use Rattle.std.specs.Prelude.{◌≡◌, ℕ, ◌+◌, ◌-◌, List, [], ◌∷◌, ◌++◌, length, take}
use Rattle.rbg_rules.specs.Meaning.{AbstractState}

-- A semi-state that changes in place.
--   state: the semi-state at present
--   past: the states before each of the changes that can be taken back, the oldest first
--   room: how many more changes the list of changes has room for
-- A mark is a number: it names the state with that index, from 0, in the past followed by the present state.
pub record History : Type 0 where
  pub state : AbstractState
  pub past : List AbstractState
  pub room : ℕ

-- the states from the oldest to the present one
abbrev pub states_of : History → List AbstractState
states_of h = h.past ++ h.state ∷ []

-- the number of changes that the list can hold
abbrev pub capacity_of : History → ℕ
capacity_of h = h.room + length h.past

-- the history after one more change, which leads to s
abbrev pub changed_to : History → AbstractState → History
changed_to h s = record { state = s; past = states_of h; room = h.room - 1 }

-- later comes from earlier by changes that can all be taken back
pub record IsAfter (earlier later : History) : Type 0 where
  pub states : take (length earlier.past + 1) (states_of later) ≡ states_of earlier
