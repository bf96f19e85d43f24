-- The key after the numbers so far.
use Rattle.std.proofs.Common.{◌≡◌, take}
use Rattle.rbg_questions.specs.Keys.{mixed_all}
use Rattle.rbg_questions.proofs.keys.mix_pieces.Given as goal

abbrev pub invariant-loop-piece : goal.invariant-loop-piece
invariant-loop-piece l = l.key ≡ mixed_all l.fn.first (take l.piece-index l.pieces)
