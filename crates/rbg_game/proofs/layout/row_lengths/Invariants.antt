use Rattle.std.proofs.Common.{◌≡◌, length, map, take}
use Rattle.rbg_grammar.specs.Views.{names_of}
use Rattle.rbg_game.proofs.layout.row_lengths.Given as goal

abbrev pub invariant-loop-row : goal.invariant-loop-row
invariant-loop-row l = l.lengths.items ≡ map length (map names_of (take l.row-index l.rows))
