-- The marks so far have their other numbers.
use Rattle.std.proofs.Common.{◌≡◌, map, take}
use Rattle.rbg_position.specs.Renumbering.{number_in}
use Rattle.rbg_position.specs.internal.Marks.{renumbered_mark}
use Rattle.rbg_position.proofs.same_rest.renumbered.Given as goal

abbrev pub invariant-loop-mark : goal.invariant-loop-mark
invariant-loop-mark l = l.new.items ≡ map (renumbered_mark (number_in l.numbers)) (take l.mark-index l.key)
