-- The whole list is the parameters so far, followed by those of the rest.
use Rattle.std.proofs.Common.{◌-◌, length}
use Rattle.rbg_macro.proofs.Heads.{HasListed}
use Rattle.rbg_macro.proofs.definition.parameter_list.Given as goal

abbrev pub invariant-loop-next : goal.invariant-loop-next
invariant-loop-next l = HasListed l.end l.tokens l.at l.names.keys

abbrev pub decreases-loop-next : goal.decreases-loop-next
decreases-loop-next l = length l.tokens - l.at
