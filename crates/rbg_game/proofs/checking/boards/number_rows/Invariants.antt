use Rattle.rbg_base.proofs.Common.{map, take, AllZip}
use Rattle.rbg_board.specs.Cells.{rows_of}
use Rattle.rbg_grammar.specs.Views.{names_of}
use Rattle.rbg_game.specs.NameNumbers.{IsNumberOf}
use Rattle.rbg_game.proofs.checking.boards.number_rows.Given as goal

abbrev pub invariant-loop-row : goal.invariant-loop-row
invariant-loop-row l = AllZip (AllZip (IsNumberOf l.pieces)) (map names_of (take l.row-index l.rows)) (rows_of l.numbers.items)
