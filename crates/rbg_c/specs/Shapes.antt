-- The edges of a board and the actions of rules, as numbers.
use Rattle.std.specs.Prelude.{◌≡◌, ℕ, zero, suc, List, [], ◌∷◌, ◌++◌, length, Option, None, Some}
use Rattle.rbg_board.specs.Graph.{Graph, next}
use Rattle.rbg_rules.specs.Meaning.{AbstractAction, AbstractGame, HasAction, assignment, comparison, negative, off, on, positive, shift, switch}

-- the number of no vertex
abbrev pub no_vertex : ℕ
no_vertex = 4294967295

-- where a direction leads
abbrev pub way_number : Option ℕ → ℕ
way_number None = no_vertex
way_number (Some vertex) = vertex

-- where the first directions lead from a vertex, and then the same for the first vertices, one after the other
abbrev pub ways : Graph → (vertex directions : ℕ) → List ℕ
ways board vertex zero = []
ways board vertex (suc n) = ways board vertex n ++ way_number (next board vertex n) ∷ []

abbrev pub all_ways : Graph → (directions vertices : ℕ) → List ℕ
all_ways board directions zero = []
all_ways board directions (suc n) = all_ways board directions n ++ ways board n directions

-- where each direction leads from each vertex
abbrev pub edges_of : AbstractGame → List ℕ
edges_of game = all_ways game.board (length game.directions) (length game.board.first)

-- which kind of action it is, and the numbers of what it names
abbrev pub kind_of : AbstractAction → ℕ
kind_of (shift direction) = 0
kind_of (on pieces) = 1
kind_of (off piece) = 2
kind_of (assignment variable value) = 3
kind_of (comparison left relation right) = 4
kind_of (switch player) = 5
kind_of (positive x) = 6
kind_of (negative x) = 7

abbrev pub named_by : AbstractAction → List ℕ
named_by (shift direction) = direction ∷ []
named_by (on pieces) = pieces
named_by (off piece) = piece ∷ []
named_by (assignment variable value) = variable ∷ []
named_by (comparison left relation right) = []
named_by (switch player) = player ∷ []
named_by (positive x) = []
named_by (negative x) = []

-- The action at a position of the rules is of this kind, and names the things of these numbers.
pub record IsToldAction (game : AbstractGame) (position kind : ℕ) (numbers : List ℕ) : Type 0 where
  pub action : AbstractAction
  pub stands : HasAction game.rules position action
  pub kind_is : kind ≡ kind_of action
  pub numbers_are : numbers ≡ named_by action
