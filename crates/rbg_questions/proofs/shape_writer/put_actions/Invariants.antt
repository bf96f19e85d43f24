-- The text so far is that of the actions so far.
use Rattle.rbg_questions.proofs.Shaping.{WrittenFirst}
use Rattle.rbg_questions.proofs.shape_writer.put_actions.Given as goal

abbrev pub invariant-loop-index : goal.invariant-loop-index
invariant-loop-index l = WrittenFirst l.game.rules l.index l.fn.out.items l.out.items
