use Rattle.std.proofs.Common.{◌≡◌, length, map, take}
use Rattle.rbg_grammar.specs.Views.{name_of}
use Rattle.rbg_game.specs.internal.Boards.{NumbersDirections}
use Rattle.rbg_game.proofs.checking.directions.number_directions.Given as goal

abbrev pub invariant-loop-place : goal.invariant-loop-place
invariant-loop-place l = NumbersDirections (map name_of (take l.place l.names)) (take l.place l.numbers) l.table × (length l.numbers ≡ length l.names)
