-- The history that there was comes after the one that there is.
use Rattle.std.proofs.Common.{◌≡◌, ◌≤◌, length}
use Rattle.rbg_state.specs.History.{capacity_of, IsAfter}
use Rattle.rbg_state.proofs.state.SemiState.undo_to.Given as goal

abbrev pub invariant-loop-mark : goal.invariant-loop-mark
invariant-loop-mark l = record { after : IsAfter l.self l.initial.self; capacity : capacity_of l.self ≡ capacity_of l.initial.self; within : l.mark ≤ length l.self.past }

abbrev pub decreases-loop-mark : goal.decreases-loop-mark
decreases-loop-mark l = length l.self.past
