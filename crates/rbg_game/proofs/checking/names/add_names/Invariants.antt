use Rattle.std.proofs.Common.{◌≡◌, ◌++◌, map, take}
use Rattle.rbg_grammar.specs.Views.{name_of}
use Rattle.rbg_game.specs.NameNumbers.{texts_of}
use Rattle.rbg_game.proofs.checking.names.add_names.Given as goal

abbrev pub invariant-loop-name : goal.invariant-loop-name
invariant-loop-name l = l.table ≡ l.initial.table ++ texts_of (map name_of (take l.name-index l.names))
