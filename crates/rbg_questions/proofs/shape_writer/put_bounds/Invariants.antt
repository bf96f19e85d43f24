-- The text so far is that of the bounds so far.
use Rattle.std.proofs.Common.{◌≡◌, ◌++◌, take}
use Rattle.rbg_questions.specs.Fields.{numbers_text}
use Rattle.rbg_questions.proofs.shape_writer.put_bounds.Given as goal

abbrev pub invariant-loop-index : goal.invariant-loop-index
invariant-loop-index l = l.out.items ≡ l.fn.out.items ++ numbers_text (take l.index l.game.bounds)
