use Rattle.rbg_hall.specs.internal.Parts.{AreNew}
use Rattle.rbg_hall.proofs.opening.new_lines.Given as goal

abbrev pub invariant-loop : goal.invariant-loop
invariant-loop l = AreNew l.counter l.lines.items
