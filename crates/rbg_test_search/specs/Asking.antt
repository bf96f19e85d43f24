-- What is asked at a place of a game.
use Rattle.std.specs.Prelude.{◌≡◌, Option, IfSome}
use Rattle.rbg_rules.specs.Meaning.{Expression, AbstractPlace, IsPlaceOf, AbstractGame}

-- The automaton is that of the game, the game that was made ready for play is the same one, and the place is one of it.
abbrev pub IsAskedAt : {Steps : Type 0} (of_rules : Steps → Expression → Type 0) → Steps → (game played : AbstractGame) → AbstractPlace → Type 0
IsAskedAt of_rules steps game played place = of_rules steps game.rules × (played ≡ game) × IsPlaceOf game place

-- A search may be made from the place: the automaton and the paths, where there are some, are those of the game, and the
-- place is one of it.
abbrev pub IsSearchedAt : {Steps Lent : Type 0} (of_rules : Steps → Expression → Type 0) → Steps → (game : AbstractGame) → (are_paths : Lent → Type 0) → Option Lent → AbstractPlace → Type 0
IsSearchedAt of_rules steps game are_paths paths place =
    of_rules steps game.rules × IfSome paths are_paths × IsPlaceOf game place
