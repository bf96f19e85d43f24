-- What two games or boards have in common.
use Rattle.std.specs.Prelude.{◌≡◌, ℕ, List}
use Rattle.rbg_board.specs.Graph.{Graph}
use Rattle.rbg_rules.specs.Meaning.{AbstractGame}
use Rattle.rbg_position.specs.declared.names.Things.{Things}
use Rattle.rbg_position.specs.declared.names.Things.TheVariants.{Pieces, Variables, Directions}

-- the names of the things of a game
abbrev pub names_of : Things → AbstractGame → List (List ℕ)
names_of Pieces game = game.pieces
names_of Variables game = game.variables
names_of Directions game = game.directions

-- The games have the same names and bounds.
pub record SameNames (old new : AbstractGame) : Type 0 where
  pub players : old.players ≡ new.players
  pub variables : old.variables ≡ new.variables
  pub bounds : old.bounds ≡ new.bounds
  pub pieces : old.pieces ≡ new.pieces
  pub directions : old.directions ≡ new.directions

-- A board is another one with these first pieces.
pub record IsBoardWith (new old : Graph) (pieces : List ℕ) : Type 0 where
  pub first : new.first ≡ pieces
  pub ways : new.ways ≡ old.ways
