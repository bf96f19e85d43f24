-- The numbers so far are those of the bytes so far.
use Rattle.rbg_questions.specs.Packing.{in_four}
use Rattle.rbg_questions.proofs.Packed.{ReadSoFar}
use Rattle.rbg_questions.proofs.packing.read_fours.Given as goal

abbrev pub invariant-loop-index : goal.invariant-loop-index
invariant-loop-index l = ReadSoFar in_four 4 32 l.bytes l.index l.numbers.items
