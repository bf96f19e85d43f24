-- Changes of one part of a semi-state, and the states that a list of changes leads back to.
use Rattle.std.specs.Prelude.{ℕ, ◌<◌, List, [], ◌∷◌, slice_set}
use Rattle.rbg_rules.specs.Meaning.{AbstractState}
use Rattle.rbg_state.specs.History.{History}
use Rattle.rbg_state.specs.declared.change.Change.{Change}
use Rattle.rbg_state.specs.declared.change.Change.TheVariants.{Player, Vertex, Piece, Value}

-- the state after a change
abbrev pub set : Change → AbstractState → AbstractState
set (Player p) s = record s { player = p }
set (Vertex v) s = record s { vertex = v }
set (Piece v x) s = record s { pieces = slice_set s.pieces v x }
set (Value i n) s = record s { values = slice_set s.values i n }

-- The vertex or the variable of the change exists.
abbrev pub IsChangeWithin : (vertices variables : ℕ) → Change → Type 0
IsChangeWithin vertices variables (Player p) = Unit {0}
IsChangeWithin vertices variables (Vertex v) = Unit {0}
IsChangeWithin vertices variables (Piece v x) = v < vertices
IsChangeWithin vertices variables (Value i n) = i < variables

-- the state after all of the changes, the last one first
abbrev pub set_back : List Change → AbstractState → AbstractState
set_back [] s = s
set_back (c ∷ cs) s = set c (set_back cs s)

-- the states that these changes lead back to, the oldest first
unfoldable pub past_of : List Change → AbstractState → List AbstractState
past_of [] s = []
past_of (c ∷ cs) s = set_back (c ∷ cs) s ∷ past_of cs s

-- the history of a state, the changes that lead back from it, and the room for more
abbrev pub history_of : AbstractState → List Change → ℕ → History
history_of s cs room = record { state = s; past = past_of cs s; room = room }
