-- What the loop over the positions keeps.
use Rattle.rbg_auto.specs.internal.Compacts.{IsCompactOf}
use Rattle.rbg_auto.proofs.packing.set_glances.Given as goal

abbrev pub invariant-loop-index : goal.invariant-loop-index
invariant-loop-index l = IsCompactOf l.automaton l.game.rules
