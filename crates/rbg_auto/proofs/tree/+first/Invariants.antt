-- What the loops over parts keep: the positions of the parts so far were appended.
use Rattle.rbg_auto.proofs.TreeLemmas.{SoFarInSequence, SoFarInSum}
use Rattle.rbg_auto.proofs.tree.+first.Given as goal

abbrev pub invariant-push_first_of_sequence-loop-part :
    goal.invariant-push_first_of_sequence-loop-part
invariant-push_first_of_sequence-loop-part l = SoFarInSequence l.parts l.part-index l.initial.first.items l.first.items

abbrev pub invariant-push_first_of_sum-loop-part : goal.invariant-push_first_of_sum-loop-part
invariant-push_first_of_sum-loop-part l = SoFarInSum l.parts l.part-index l.initial.first.items l.first.items l.may_be_empty
