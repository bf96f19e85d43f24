-- The numbers so far are those of the bytes so far.
use Rattle.rbg_questions.specs.Packing.{in_two}
use Rattle.rbg_questions.proofs.Packed.{ReadSoFar}
use Rattle.rbg_questions.proofs.packing.read_twos.Given as goal

abbrev pub invariant-loop-index : goal.invariant-loop-index
invariant-loop-index l = ReadSoFar in_two 2 16 l.bytes l.index l.numbers.items
