-- The tokens so far are one word, and the rest is joined to it.
use Rattle.std.proofs.Common.{length, ◌-◌}
use Rattle.rbg_macro.proofs.Chains.{HasJoined}
use Rattle.rbg_macro.proofs.joining.join_chain.Given as goal

abbrev pub invariant-loop-texts : goal.invariant-loop-texts
invariant-loop-texts l = HasJoined l.tokens l.fn.texts.items l.texts.items l.start l.kind l.count

abbrev pub decreases-loop-texts : goal.decreases-loop-texts
decreases-loop-texts l = length l.tokens - l.count
