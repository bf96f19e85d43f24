-- The warnings of a game for its author: things that it has and its rules never use, and numbers that a variable can't
-- have.
use Rattle.std.specs.Prelude.{ℕ, ◌-◌, ◌==◌, ◌||◌, nat_lt, Bool, false, IsTrue, List, ◌++◌, map, length, slice_index, Contains}
use Rattle.std.specs.List.{range_with_len}
use Rattle.rbg_rules.specs.Meaning.{AbstractArithmetic, number, variable, piece_count, negated, sum, difference, product, quotient, AbstractAction, shift, off, assignment, comparison, switch, HasAction, positions_of, AbstractGame}
use Rattle.rbg_warnings.specs.declared.named_thing.NamedThing.{NamedThing}
use Rattle.rbg_warnings.specs.declared.named_thing.NamedThing.TheVariants.{Player, Piece, Variable, Direction}
use Rattle.rbg_warnings.specs.declared.warning.Warning.{Warning}
use Rattle.rbg_warnings.specs.declared.warning.Warning.TheVariants.{TooGreat, Unused}

-- whether arithmetic names the variable
abbrev pub names_variable : ℕ → AbstractArithmetic → Bool
names_variable v (number n) = false
names_variable v (variable w) = w == v
names_variable v (piece_count p) = false
names_variable v (negated e) = names_variable v e
names_variable v (sum e f) = names_variable v e || names_variable v f
names_variable v (difference e f) = names_variable v e || names_variable v f
names_variable v (product e f) = names_variable v e || names_variable v f
names_variable v (quotient e f) = names_variable v e || names_variable v f

-- Whether the action uses the thing: it gives the turn to the player, puts the piece on the board, goes in the
-- direction, or names the variable.
abbrev pub uses : NamedThing → AbstractAction → Bool
uses (Player m) (switch n) = n == m
uses (Piece y) (off x) = x == y
uses (Direction e) (shift d) = d == e
uses (Variable w) (assignment v e) = v == w || names_variable w e
uses (Variable w) (comparison e r f) = names_variable w e || names_variable w f
uses _ _ = false

-- The board has the thing at the beginning: a piece on one of its vertices.
abbrev pub BoardHas : AbstractGame → NamedThing → Type 0
BoardHas game (Piece x) = Contains game.board.first x
BoardHas game (Player n) = ⊥
BoardHas game (Variable v) = ⊥
BoardHas game (Direction d) = ⊥

-- some action of the rules, also one inside a pattern, uses the thing
pub record IsWritten (game : AbstractGame) (thing : NamedThing) : Type 0 where
  pub position : ℕ
  pub action : AbstractAction
  pub stands : HasAction game.rules position action
  pub is_used : IsTrue (uses thing action)

-- whether arithmetic is a number above a bound
abbrev pub is_number_above : ℕ → AbstractArithmetic → Bool
is_number_above bound (number n) = nat_lt bound n
is_number_above bound _ = false

-- whether the action assigns a number to a variable whose bound is smaller
abbrev pub assigns_too_much : List ℕ → AbstractAction → Bool
assigns_too_much bounds (assignment v e) = is_number_above (slice_index bounds v) e
assigns_too_much bounds _ = false

-- such an action is at the position
pub record HasTooGreat (game : AbstractGame) (position : ℕ) : Type 0 where
  pub action : AbstractAction
  pub stands : HasAction game.rules position action
  pub too_great : IsTrue (assigns_too_much game.bounds action)

-- the thing is neither on the board at the beginning nor used by the rules
pub record IsUnused (game : AbstractGame) (thing : NamedThing) : Type 0 where
  pub no_board : BoardHas game thing → ⊥
  pub no_action : IsWritten game thing → ⊥

-- the warning is one of the game
abbrev pub IsWarned : AbstractGame → Warning → Type 0
IsWarned game (TooGreat position) = HasTooGreat game position
IsWarned game (Unused thing) = IsUnused game thing

-- The warnings that a game may have, in order: one for each position, and one for each player, piece, variable that is
-- no player's score, and direction.
unfoldable pub positions_warned : AbstractGame → List Warning
positions_warned game = map TooGreat (range_with_len 1 (length (positions_of game.rules)))

unfoldable pub players_warned : AbstractGame → List Warning
players_warned game = map (λ n. Unused (Player n)) (range_with_len 1 (length game.players))

unfoldable pub pieces_warned : AbstractGame → List Warning
pieces_warned game = map (λ x. Unused (Piece x)) (range_with_len 0 (length game.pieces))

unfoldable pub variables_warned : AbstractGame → List Warning
variables_warned game =
    map (λ v. Unused (Variable v))
    (range_with_len (length game.players) (length game.variables - length game.players))

unfoldable pub directions_warned : AbstractGame → List Warning
directions_warned game = map (λ d. Unused (Direction d)) (range_with_len 0 (length game.directions))

abbrev pub possible_warnings : AbstractGame → List Warning
possible_warnings game =
    positions_warned game ++ players_warned game ++ pieces_warned game ++ variables_warned game ++ directions_warned game
