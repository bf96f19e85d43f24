-- The text so far is that of the items so far.
use Rattle.std.proofs.Common.{◌≡◌, ◌++◌, take}
use Rattle.rbg_questions.specs.Answers.{numbers_text}
use Rattle.rbg_questions.proofs.answer_writer.put_pieces.Given as goal

abbrev pub invariant-loop-piece : goal.invariant-loop-piece
invariant-loop-piece l = l.out.items ≡ l.fn.out.items ++ numbers_text (take l.piece-index l.pieces)
