-- Which games flat parts that are kept fit.
use Rattle.std.specs.Prelude.{◌≡◌, ℕ, length}
use Rattle.rbg_rules.specs.Meaning.{positions_of, AbstractGame}
use Rattle.rbg_flat.specs.internal.Leading.{AreSizedFor}
use Rattle.rbg_flat.specs.internal.Sets.{SetsOfVertices}

-- The game has so many positions and vertices.
pub record IsOfSize (game : AbstractGame) (positions vertices : ℕ) : Type 0 where
  pub positions_are : length (positions_of game.rules) ≡ positions
  pub vertices_are : length game.board.first ≡ vertices

-- The sets are of use for each game that has so many positions and vertices.
pub record FitSets (positions vertices : ℕ) (sets : SetsOfVertices) : Type 0 where
  pub fit : (game : AbstractGame) → IsOfSize game positions vertices → AreSizedFor game sets
