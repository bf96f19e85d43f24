-- So many moves were made.
use Rattle.rbg_c.proofs.ByChance.{GoneOn}
use Rattle.rbg_c.proofs.playouts.play_on.Given as goal

abbrev pub invariant-loop : goal.invariant-loop
invariant-loop l = GoneOn l.initial.state l.counter l.state
