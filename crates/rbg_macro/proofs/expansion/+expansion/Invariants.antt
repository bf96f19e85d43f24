-- Each call is one level further down.
use Rattle.std.proofs.Common.{◌+◌, ◌-◌, ◌*◌, length}
use Rattle.rbg_macro.specs.declared.limits.TheConstants.{MAX_LEVEL}
use Rattle.rbg_macro.proofs.Reading.{HasRead}
use Rattle.rbg_macro.proofs.expansion.+expansion.Given as goal

abbrev pub decreases-read_list : goal.decreases-read_list
decreases-read_list l = 2 * (MAX_LEVEL - l.level) + 1

abbrev pub decreases-read_joined : goal.decreases-read_joined
decreases-read_joined l = 2 * (MAX_LEVEL - l.level)

abbrev pub invariant-read_joined-loop-at : goal.invariant-read_joined-loop-at
invariant-read_joined-loop-at l = HasRead l.macros l.level l.list l.at l.fn.expanded l.expanded

abbrev pub decreases-read_joined-loop-at : goal.decreases-read_joined-loop-at
decreases-read_joined-loop-at l = length l.list - l.at
