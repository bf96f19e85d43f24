-- A board by the numbers of its names.
use Rattle.std.specs.Prelude.{◌≡◌, ℕ, ◌<◌, ◌≤◌, ◌⊎◌, List, [], ◌∷◌, ◌++◌, Some, length, slice_get, Contains, All, Result, Ok, Err}
use Rattle.std.specs.List.{AllZip, range_with_len}
use Rattle.rbg_board.specs.Graph.{Graph, IsClosed}
use Rattle.rbg_board.specs.Cells.{AreDifferent}
use Rattle.rbg_board.specs.declared.error.BoardError.{BoardError}
use Rattle.rbg_board.specs.declared.error.BoardError.TheVariants as board_errors
use Rattle.rbg_grammar.specs.Tree.{SpeltName, SpeltBoard}
use Rattle.rbg_rules.specs.Meaning.{most_directions, most_vertices, AreDifferentNames, AreLawfulNames}
use Rattle.rbg_game.specs.declared.checking.boards.NamedBoard.{NamedBoard}
use Rattle.rbg_game.specs.declared.game_error.GameError.{GameError}
use Rattle.rbg_game.specs.declared.game_error.GameError.TheVariants as errors
use Rattle.rbg_game.specs.NameNumbers.{IsNumberOf, texts_of}
use Rattle.rbg_game.specs.Descriptions.{BoardIs}

-- The board has vertices, no more than are allowed, and edges between them alone.
pub record HasVertices (board : Graph) : Type 0 where
  pub closed : IsClosed board
  pub some_vertex : 0 < length board.first
  pub limit : length board.first ≤ most_vertices

-- The board with these names of directions is the one that is spelt, and meets the conditions on the board of every
-- game.
pub record MakesBoard
    (pieces : List (List ℕ))
    (spelt : SpeltBoard)
    (directions : List (List ℕ))
    (board : Graph)
    : Type 0 where
  pub is_board : BoardIs (record { directions = directions; pieces = pieces; board = board }) spelt
  pub names : AreLawfulNames directions
  pub few : length directions ≤ most_directions
  pub vertices : HasVertices board
  pub first_pieces : All (λ x. x < length pieces) board.first

-- n is the number of the text in the new table, which is the old one, or, if that lacks the text, the old one with the
-- text after it.
pub record Joins (old new : List (List ℕ)) (text : List ℕ) (n : ℕ) : Type 0 where
  pub number : slice_get new n ≡ Some text
  pub table :
      ((n < length old) × (new ≡ old))
      ⊎ ((n ≡ length old) × (new ≡ old ++ text ∷ []) × (¬ Contains old text))

-- Names by their numbers in a table of different names: if the numbers differ, the table is the names in order.
pub record NumbersDirections (names : List SpeltName) (numbers : List ℕ) (table : List (List ℕ)) : Type 0 where
  pub few : length table ≤ length names
  pub differ : AreDifferentNames table
  pub named : AllZip (IsNumberOf table) names numbers
  pub in_order : AreDifferent numbers → (numbers ≡ range_with_len 0 (length names)) × (table ≡ texts_of names)

-- the error of a refused board; refused memory is `Memory`, as in every layer
abbrev pub refusal_of : BoardError → GameError
refusal_of board_errors.Memory = errors.Memory
refusal_of error = errors.Board error

-- what a generator made is the board, whose directions have these names
pub record IsNamed (table : List (List ℕ)) (made : Result Graph BoardError) (named : NamedBoard) : Type 0 where
  pub is : made ≡ Ok named.board
  pub directions : named.directions ≡ table
  pub names : AreLawfulNames table
  pub vertices : HasVertices named.board

-- a generator refuses its arguments, and this is the error
pub record IsRefusedFor (made : Result Graph BoardError) (error : GameError) : Type 0 where
  pub cause : BoardError
  pub is : made ≡ Err cause
  pub refusal : error ≡ refusal_of cause
