-- The moves so far are the first of the list.
use Rattle.std.proofs.Common.{◌≡◌, map, take}
use Rattle.rbg_questions.proofs.ordering.lent_moves.Given as goal

abbrev pub invariant-loop-index : goal.invariant-loop-index
invariant-loop-index l = map (λ m. m.now) l.lent.items ≡ take l.index l.moves
