-- So many moves were made, and their numbers are appended.
use Rattle.rbg_c.proofs.ByChance.{ToldOn}
use Rattle.rbg_c.proofs.playouts.sample_on.Given as goal

abbrev pub invariant-loop : goal.invariant-loop
invariant-loop l = ToldOn l.initial.state l.counter l.state l.fn.numbers.items l.numbers.items
