use Rattle.std.proofs.Common.{◌-◌}
use Rattle.rbg_match.proofs.GoingOn.{HasCome}
use Rattle.rbg_match.proofs.state.Referee.play_on.Given as goal

abbrev pub invariant-loop-in_a_row : goal.invariant-loop-in_a_row
invariant-loop-in_a_row l = HasCome l.initial.self l.in_a_row l.self

abbrev pub decreases-loop-in_a_row : goal.decreases-loop-in_a_row
decreases-loop-in_a_row l = 1001 - l.in_a_row
