-- The variables so far are within their bounds.
use Rattle.std.proofs.Common.{ℕ, ◌<◌, ◌≤◌, slice_index}
use Rattle.rbg_state.proofs.fitting.are_within_bounds.Given as goal

abbrev pub invariant-loop-variable : goal.invariant-loop-variable
invariant-loop-variable l = (v : ℕ) → v < l.variable → slice_index l.values v ≤ slice_index l.game.bounds v
