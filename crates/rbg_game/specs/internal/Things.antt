-- The players, variables and pieces of a description by their numbers, and the game that is made of them.
use Rattle.std.specs.Prelude.{◌≡◌, ℕ, ◌≤◌, List, [], ◌++◌, length, All}
use Rattle.rbg_grammar.specs.Tree.{SpeltBounded, SpeltDescription}
use Rattle.rbg_rules.specs.Meaning.{Expression, AbstractGame, most_players, most_pieces, most_variables, max_bound, AreLawfulNames}
use Rattle.rbg_game.specs.declared.checking.boards.NamedBoard.{NamedBoard}
use Rattle.rbg_game.specs.declared.checking.names.Things.{Things}
use Rattle.rbg_game.specs.NameNumbers.{texts_of}
use Rattle.rbg_game.specs.Descriptions.{holder_names, holders_of, AreBounds}

-- The bounds of the players or variables come after the others, and none is too large.
pub record AddsBounds (holders : List SpeltBounded) (old new : List ℕ) : Type 0 where
  pub added : List ℕ
  pub after : new ≡ old ++ added
  pub bounds : AreBounds holders added
  pub limit : All (λ bound. bound ≤ max_bound) added

-- The names and bounds are those of the description, and there are no more of them than are allowed.
pub record AreThingsOf (d : SpeltDescription) (things : Things) : Type 0 where
  pub players : things.players ≡ holder_names d.players
  pub variables : things.variables ≡ holder_names (holders_of d)
  pub pieces : things.pieces ≡ texts_of d.pieces
  pub bounds : AddsBounds (holders_of d) [] things.bounds.items
  pub lawful_variables : AreLawfulNames things.variables
  pub lawful_pieces : AreLawfulNames things.pieces
  pub player_limit : length things.players ≤ most_players
  pub piece_limit : length things.pieces ≤ most_pieces
  pub variable_limit : length things.variables ≤ most_variables

-- the game of its parts
abbrev pub game_by_numbers : Things → NamedBoard → Expression → AbstractGame
game_by_numbers things named rules =
    record {
      players = things.players;
      pieces = things.pieces;
      variables = things.variables;
      bounds = things.bounds.items;
      directions = named.directions;
      board = named.board;
      rules = rules;
    }
