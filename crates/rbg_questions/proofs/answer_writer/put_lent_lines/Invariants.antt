-- The text so far is that of the items so far.
use Rattle.std.proofs.Common.{◌≡◌, ◌++◌, take, flat_map}
use Rattle.rbg_wire.proofs.Common.{line_of, pairs_text}
use Rattle.rbg_questions.proofs.answer_writer.put_lent_lines.Given as goal

abbrev pub invariant-loop-pairs : goal.invariant-loop-pairs
invariant-loop-pairs l = l.out.items ≡ l.fn.out.items ++ flat_map (λ m. line_of (pairs_text m.now)) (take l.pairs-index l.moves)
