use Rattle.rbg_base.proofs.Common.{map, take, AllZip}
use Rattle.rbg_grammar.specs.Views.{name_of}
use Rattle.rbg_game.specs.NameNumbers.{IsNumberOf}
use Rattle.rbg_game.proofs.name_table.NameTable.find_all.Given as goal

abbrev pub invariant-loop-name : goal.invariant-loop-name
invariant-loop-name l = AllZip (IsNumberOf l.self) (map name_of (take l.name-index l.names)) l.numbers.items
