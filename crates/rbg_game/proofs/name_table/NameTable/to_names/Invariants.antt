use Rattle.std.proofs.Common.{◌≡◌, take}
use Rattle.rbg_rules.specs.Meaning.{texts}
use Rattle.rbg_game.specs.NameTables.{bytes_of}
use Rattle.rbg_game.proofs.name_table.NameTable.to_names.Given as goal

abbrev pub invariant-loop-name : goal.invariant-loop-name
invariant-loop-name l = texts l.names.items ≡ bytes_of (take l.name-index l.name-items)
