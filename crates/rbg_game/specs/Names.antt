-- The names that a refusal has for things of which there are too many.
use Rattle.std.specs.Prelude.{ℕ, List, codes}
use Rattle.rbg_game.specs.declared.game_error.Thing.{Thing}
use Rattle.rbg_game.specs.declared.game_error.Thing.TheVariants as things

unfoldable pub thing_name : Thing → List ℕ
thing_name things.Players = codes "players"
thing_name things.Pieces = codes "pieces"
thing_name things.Variables = codes "variables"
thing_name things.Directions = codes "directions"
thing_name things.Positions = codes "positions"
