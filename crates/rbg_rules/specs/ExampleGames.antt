-- Small games for the examples of the module `examples`: players white (1) and black (2), pieces e (0) and w (1),
-- directions up, down, left and right (0 to 3), variables white and black (0 and 1) and n (2).
use Rattle.std.specs.Prelude.{ℕ, List, [], ◌∷◌, Some, None, codes}
use Rattle.rbg_board.specs.Graph.{Graph}
use Rattle.rbg_rules.specs.Meaning.{number, variable, sum, shift, on, off, assignment, switch, positive, negative, Expression, act, star, sequence_of, choice_of, AbstractGame, AbstractState, AbstractPlace}

-- one square e, and two squares e, e in a row
abbrev pub one_square : Graph
one_square = record { first = 0 ∷ []; ways = [] }

abbrev pub two_squares : Graph
two_squares = record {
  first = 0 ∷ 0 ∷ [];
  ways = (None ∷ None ∷ None ∷ Some 1 ∷ []) ∷ (None ∷ None ∷ Some 0 ∷ None ∷ []) ∷ [];
}

abbrev pub game_on : Graph → Expression → AbstractGame
game_on board rules = record {
  players = codes "white" ∷ codes "black" ∷ [];
  pieces = codes "e" ∷ codes "w" ∷ [];
  variables = codes "white" ∷ codes "black" ∷ codes "n" ∷ [];
  bounds = 100 ∷ 100 ∷ 1 ∷ [];
  directions = codes "up" ∷ codes "down" ∷ codes "left" ∷ codes "right" ∷ [];
  board = board;
  rules = rules;
}

-- ->white ([e])* ->black
abbrev pub star_of_offs : AbstractGame
star_of_offs = game_on one_square (sequence_of (act 1 (switch 1) ∷ star (act 2 (off 0)) ∷ act 3 (switch 2) ∷ []))

-- ->white ([w])* {}
abbrev pub without_end : AbstractGame
without_end = game_on one_square (sequence_of (act 1 (switch 1) ∷ star (act 2 (off 1)) ∷ act 3 (on []) ∷ []))

-- ->white ([$ n=n+1])* ->black
abbrev pub counting : AbstractGame
counting =
    game_on one_square
    (sequence_of (act 1 (switch 1) ∷ star (act 2 (assignment 2 (sum (variable 2) (number 1)))) ∷ act 3 (switch 2) ∷ []))

-- ->white {? right [w]} right {e} [w] ->black
abbrev pub looking_right : AbstractGame
looking_right =
    game_on two_squares
    (sequence_of (act 1 (switch 1) ∷
    act 2 (positive (sequence_of (act 3 (shift 3) ∷ act 4 (off 1) ∷ []))) ∷
    act 5 (shift 3) ∷ act 6 (on (0 ∷ [])) ∷ act 7 (off 1) ∷ act 8 (switch 2) ∷ []))

-- ->white {! right [w] {w}} [w] ->black
abbrev pub nothing_right : Graph → AbstractGame
nothing_right board =
    game_on board
    (sequence_of (act 1 (switch 1) ∷
    act 2 (negative (sequence_of (act 3 (shift 3) ∷ act 4 (off 1) ∷ act 5 (on (1 ∷ [])) ∷ []))) ∷
    act 6 (off 1) ∷ act 7 (switch 2) ∷ []))

-- ->white ([e] + [w]) ->black
abbrev pub small_sum : AbstractGame
small_sum =
    game_on one_square
    (sequence_of (act 1 (switch 1) ∷ choice_of (act 2 (off 0) ∷ act 3 (off 1) ∷ []) ∷ act 4 (switch 2) ∷ []))

-- (->>)*
abbrev pub keeper_for_ever : AbstractGame
keeper_for_ever = game_on one_square (star (act 1 (switch 0)))

-- {? right} {! left}
abbrev pub only_right : Expression
only_right = sequence_of (act 5 (positive (act 6 (shift 3))) ∷ act 7 (negative (act 8 (shift 2))) ∷ [])

-- ->white (right + left)* {! {? right} {! left}} [w] ->black
abbrev pub nested : AbstractGame
nested =
    game_on two_squares
    (sequence_of (act 1 (switch 1) ∷
    star (choice_of (act 2 (shift 3) ∷ act 3 (shift 2) ∷ [])) ∷
    act 4 (negative only_right) ∷ act 9 (off 1) ∷ act 10 (switch 2) ∷ []))

-- The semi-state with these pieces and this value of n, with that player to act and the vertex 0 current; and the place
-- after the keeper's first switch: white is current, n is 0.
abbrev pub state_of : (player : ℕ) (pieces : List ℕ) (n : ℕ) → AbstractState
state_of player pieces n = record { player = player; pieces = pieces; values = 0 ∷ 0 ∷ n ∷ []; vertex = 0 }

abbrev pub white_on : List ℕ → AbstractPlace
white_on pieces = record { state = state_of 1 pieces 0; last = Some 1 }

-- ([w] + [e]) {}
abbrev pub off_and_stop : Expression
off_and_stop = sequence_of (choice_of (act 3 (off 1) ∷ act 4 (off 0) ∷ []) ∷ act 5 (on []) ∷ [])

-- ->white {! ([w] + [e]) {}} ->black
abbrev pub asking_a_sum : AbstractGame
asking_a_sum =
    game_on one_square (sequence_of (act 1 (switch 1) ∷ act 2 (negative off_and_stop) ∷ act 6 (switch 2) ∷ []))

-- ->white (([e])* {} + [w]) ->black
abbrev pub heavy_choice : AbstractGame
heavy_choice =
    game_on one_square
    (sequence_of (act 1 (switch 1) ∷
    choice_of (sequence_of (star (act 2 (off 0)) ∷ act 3 (on []) ∷ []) ∷ act 4 (off 1) ∷ []) ∷
    act 5 (switch 2) ∷ []))
