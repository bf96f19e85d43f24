-- The lines so far are those of the moves so far.
use Rattle.std.proofs.Common.{map, take}
use Rattle.rbg_questions.specs.internal.Searching.{WritesMoves}
use Rattle.rbg_questions.proofs.searching.put_moves.Given as goal

abbrev pub invariant-loop-pairs : goal.invariant-loop-pairs
invariant-loop-pairs l = WritesMoves l.from.game l.from.place l.draw.count (map (λ m. m.now) (take l.pairs-index l.moves)) l.fn.out.items l.out.items
