-- There is no `#board` before this index.
use Rattle.std.proofs.Common.{ℕ, ◌<◌, map}
use Rattle.rbg_macro.specs.Token.{lexeme_of}
use Rattle.rbg_position.specs.Boards.{BeginsBoard}
use Rattle.rbg_position.proofs.new_text.find_board.Given as goal

abbrev pub invariant-loop-at : goal.invariant-loop-at
invariant-loop-at l = (k : ℕ) → k < l.at → ¬ BeginsBoard (map lexeme_of l.tokens) k
