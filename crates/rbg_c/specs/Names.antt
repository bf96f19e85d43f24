-- The names of a game.
use Rattle.std.specs.Prelude.{ℕ, zero, suc, List, []}
use Rattle.rbg_rules.specs.Meaning.{AbstractGame}

-- the names of this kind: 0 of the players, 1 of the pieces, 2 of the variables, 3 of the directions
abbrev pub names_of : (kind : ℕ) → AbstractGame → List (List ℕ)
names_of zero game = game.players
names_of (suc zero) game = game.pieces
names_of (suc (suc zero)) game = game.variables
names_of (suc (suc (suc zero))) game = game.directions
names_of (suc (suc (suc (suc kind)))) game = []
