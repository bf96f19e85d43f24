-- The text so far is that of the directions so far.
use Rattle.std.proofs.Common.{◌≡◌, ◌++◌}
use Rattle.rbg_questions.specs.Shapes.{ways_text}
use Rattle.rbg_questions.proofs.shape_writer.put_ways.Given as goal

abbrev pub invariant-loop-index : goal.invariant-loop-index
invariant-loop-index l = l.out.items ≡ l.fn.out.items ++ ways_text l.game.board l.vertex l.index
