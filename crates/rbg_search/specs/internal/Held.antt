-- The paths by which a search goes.
use Rattle.rbg_rules.specs.Meaning.{AbstractGame}
use Rattle.rbg_flat.specs.Paths.{ArePathsOf}
use Rattle.rbg_search.specs.declared.held_paths.HeldPaths.{HeldPaths}
use Rattle.rbg_search.specs.declared.held_paths.HeldPaths.TheVariants.{Lent, Own}

-- They are those of the game.
abbrev pub HoldsPathsOf : AbstractGame → HeldPaths → Type 0
HoldsPathsOf game (Lent paths) = ArePathsOf game paths.now
HoldsPathsOf game (Own paths) = ArePathsOf game paths.value
