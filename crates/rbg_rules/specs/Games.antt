-- What holds of every game that was accepted.
use Rattle.std.specs.Prelude.{◌≡◌, ℕ, suc, ◌^◌, ◌<◌, ◌≤◌, ◌⊎◌, length, take, All}
use Rattle.rbg_board.specs.Graph.{IsClosed}
use Rattle.rbg_board.specs.Limits.{most_vertices}
use Rattle.rbg_rules.specs.Limits.{most_players, most_pieces, most_variables, max_bound, most_directions, most_positions, most_nested_patterns}
use Rattle.rbg_rules.specs.LawfulNames.{AreLawfulNames}
use Rattle.rbg_rules.specs.Expression.{AbstractArithmetic, number, variable, piece_count, negated, sum, difference, product, quotient, AbstractAction, shift, on, off, assignment, comparison, switch, positive, negative, Expression, act, skip, sequence, fail, choice, star}
use Rattle.rbg_rules.specs.Positions.{HasAction, positions_of, IsNumbered, IsLevel, inside}
use Rattle.rbg_rules.specs.State.{AbstractGame}

abbrev mutual
  -- No sum is without a part, in the expression and in its patterns, so every part has a word. (A sum of parts is the
  -- empty sum with each part added: there alone the empty sum may occur.)
  pub HasNoEmptySum : Expression → Type 0
  HasNoEmptySum (act p a) = HasNoEmptySumInside a
  HasNoEmptySum skip = Unit {0}
  HasNoEmptySum (sequence x y) = HasNoEmptySum x × HasNoEmptySum y
  HasNoEmptySum fail = ⊥
  HasNoEmptySum (choice x y) = (x ≡ fail ⊎ HasNoEmptySum x) × HasNoEmptySum y
  HasNoEmptySum (star x) = HasNoEmptySum x

  pub HasNoEmptySumInside : AbstractAction → Type 0
  HasNoEmptySumInside (positive x) = HasNoEmptySum x
  HasNoEmptySumInside (negative x) = HasNoEmptySum x
  HasNoEmptySumInside _ = Unit {0}

abbrev mutual
  -- Patterns are nested at most `limit` deep, one inside the other.
  pub NestsWithin : ℕ → Expression → Type 0
  NestsWithin limit (act p a) = InsideNestsWithin limit a
  NestsWithin limit skip = Unit {0}
  NestsWithin limit (sequence x y) = NestsWithin limit x × NestsWithin limit y
  NestsWithin limit fail = Unit {0}
  NestsWithin limit (choice x y) = NestsWithin limit x × NestsWithin limit y
  NestsWithin limit (star x) = NestsWithin limit x

  pub InsideNestsWithin : ℕ → AbstractAction → Type 0
  InsideNestsWithin limit (positive x) = (below : ℕ) × (limit ≡ suc below) × NestsWithin below x
  InsideNestsWithin limit (negative x) = (below : ℕ) × (limit ≡ suc below) × NestsWithin below x
  InsideNestsWithin limit _ = Unit {0}

-- The numbers in arithmetic are numbers of 64 bits, and its names are variables and pieces of the game.
abbrev pub HasNamesOf : AbstractGame → AbstractArithmetic → Type 0
HasNamesOf game (number n) = n < 2 ^ 63
HasNamesOf game (variable v) = v < length game.variables
HasNamesOf game (piece_count p) = p < length game.pieces
HasNamesOf game (negated e) = HasNamesOf game e
HasNamesOf game (sum e f) = HasNamesOf game e × HasNamesOf game f
HasNamesOf game (difference e f) = HasNamesOf game e × HasNamesOf game f
HasNamesOf game (product e f) = HasNamesOf game e × HasNamesOf game f
HasNamesOf game (quotient e f) = HasNamesOf game e × HasNamesOf game f

-- The action uses directions, pieces, variables and players of the game alone.
abbrev pub IsActionOf : AbstractGame → AbstractAction → Type 0
IsActionOf game (shift d) = d < length game.directions
IsActionOf game (on xs) = All (λ x. x < length game.pieces) xs
IsActionOf game (off x) = x < length game.pieces
IsActionOf game (assignment v e) = (v < length game.variables) × HasNamesOf game e
IsActionOf game (comparison e r f) = HasNamesOf game e × HasNamesOf game f
IsActionOf game (switch n) = n ≤ length game.players
IsActionOf game (positive x) = Unit {0}
IsActionOf game (negative x) = Unit {0}

-- No more players, pieces, variables, directions, vertices, positions and nested patterns than are allowed, and no
-- larger bounds. (Own.)
pub record IsWithinLimits (game : AbstractGame) : Type 0 where
  pub some_player : 0 < length game.players
  pub players : length game.players ≤ most_players
  pub some_piece : 0 < length game.pieces
  pub pieces : length game.pieces ≤ most_pieces
  pub variables : length game.variables ≤ most_variables
  pub bounds : All (λ bound. bound ≤ max_bound) game.bounds
  pub directions : length game.directions ≤ most_directions
  pub vertices : length game.board.first ≤ most_vertices
  pub positions : length (positions_of game.rules) ≤ most_positions
  pub nesting : NestsWithin most_nested_patterns game.rules

-- What holds of every accepted game.
--   numbered: the positions are numbered from 1 in order of text
--   no_empty_sum: each sum has a part, so each part of the rules has a word
--   actions: the rules use the game's own things
--   switches: no switch is in a pattern
--   scores: the first variables are the players, in order
--   variable_names, piece_names, direction_names: names of the language, and no name twice in one list
--   bounds: each variable has a bound
--   board: each edge leads from a vertex to a vertex; there is a vertex; the first pieces are pieces of the game
pub record IsGame (game : AbstractGame) : Type 0 where
  pub numbered : IsNumbered game.rules
  pub no_empty_sum : HasNoEmptySum game.rules
  pub actions : (p : ℕ) (a : AbstractAction) → HasAction game.rules p a → IsActionOf game a
  pub switches :
      (p : ℕ) (x : Expression) →
      IsLevel game.rules (inside p) x →
      (q n : ℕ) → ¬ HasAction x q (switch n)
  pub scores : take (length game.players) game.variables ≡ game.players
  pub variable_names : AreLawfulNames game.variables
  pub piece_names : AreLawfulNames game.pieces
  pub direction_names : AreLawfulNames game.directions
  pub bounds : length game.bounds ≡ length game.variables
  pub board : IsClosed game.board
  pub some_vertex : 0 < length game.board.first
  pub first_pieces : All (λ x. x < length game.pieces) game.board.first
  pub limits : IsWithinLimits game
