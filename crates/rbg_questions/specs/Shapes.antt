-- The shape of a game: how much of each thing there is, bounds, directions, edges, and the actions by position.
use Rattle.std.specs.Prelude.{◌≡◌, ℕ, ◌+◌, zero, suc, List, [], ◌∷◌, ◌++◌, length, Option, Some, None, codes, decimal}
use Rattle.rbg_board.specs.Graph.{Graph, next}
use Rattle.rbg_rules.specs.Meaning.{AbstractGame, AbstractAction, Expression, HasAction, assignment, comparison, negative, off, on, positions_of, positive, shift, switch}
use Rattle.rbg_wire.specs.Lines.{line_of}
use Rattle.rbg_questions.specs.Fields.{numbers_text, names_text}

-- Actions stand at the first positions of the rules, in order.
pub data StandFirst (rules : Expression) : List AbstractAction → Type 0 where
  none : StandFirst rules []
  one_more : {actions : List AbstractAction} →
      (action : AbstractAction) →
      StandFirst rules actions →
      HasAction rules (length actions + 1) action →
      StandFirst rules (actions ++ action ∷ [])

-- These are the actions of the rules, by position.
pub record AreActions (rules : Expression) (actions : List AbstractAction) : Type 0 where
  pub first : StandFirst rules actions
  pub all : length actions ≡ length (positions_of rules)

-- the word of an action, and the numbers of the things that it names. What an arithmetic expression or a pattern has
-- inside is left out.
abbrev pub action_text : AbstractAction → List ℕ
action_text (shift direction) = codes "shift " ++ decimal direction
action_text (on pieces) = codes "on" ++ numbers_text pieces
action_text (off piece) = codes "off " ++ decimal piece
action_text (assignment variable value) = codes "assign " ++ decimal variable
action_text (comparison left relation right) = codes "compare"
action_text (switch player) = codes "switch " ++ decimal player
action_text (positive x) = codes "positive"
action_text (negative x) = codes "negative"

abbrev pub action_line : AbstractAction → List ℕ
action_line action = line_of (codes "action " ++ action_text action)

-- where a direction leads, with a space before it: a vertex, or a `-` where it leads nowhere
abbrev pub way_text : Option ℕ → List ℕ
way_text None = codes " -"
way_text (Some vertex) = codes " " ++ decimal vertex

-- where the first directions lead from a vertex
abbrev pub ways_text : Graph → (vertex directions : ℕ) → List ℕ
ways_text board vertex zero = []
ways_text board vertex (suc n) = ways_text board vertex n ++ way_text (next board vertex n)

-- a line for each of the first vertices
abbrev pub edge_lines : Graph → (directions vertices : ℕ) → List ℕ
edge_lines board directions zero = []
edge_lines board directions (suc n) =
    edge_lines board directions n ++ line_of (codes "edges" ++ ways_text board n directions)

-- the line of how many players, vertices and positions there are
abbrev pub counts_line : (players vertices positions : ℕ) → List ℕ
counts_line players vertices positions =
    line_of (codes "shape " ++ decimal players ++ codes " " ++ decimal vertices ++ codes " " ++ decimal positions)

-- that line, the bounds of the variables, the directions, and the edges
unfoldable pub layout_text : AbstractGame → List ℕ
layout_text game =
    counts_line (length game.players) (length game.board.first) (length (positions_of game.rules))
    ++ line_of (codes "bounds" ++ numbers_text game.bounds)
    ++ line_of (codes "directions" ++ names_text game.directions)
    ++ edge_lines game.board (length game.directions) (length game.board.first)
