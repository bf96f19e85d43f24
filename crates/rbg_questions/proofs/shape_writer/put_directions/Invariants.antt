-- The text so far is that of the names so far.
use Rattle.std.proofs.Common.{◌≡◌, ◌++◌, take}
use Rattle.rbg_questions.specs.Fields.{names_text}
use Rattle.rbg_questions.proofs.shape_writer.put_directions.Given as goal

abbrev pub invariant-loop-index : goal.invariant-loop-index
invariant-loop-index l = l.out.items ≡ l.fn.out.items ++ names_text (take l.index l.game.directions)
