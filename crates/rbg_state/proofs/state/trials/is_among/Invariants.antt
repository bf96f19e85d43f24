-- None of the pieces so far is the one that is looked for.
use Rattle.std.proofs.Common.{take, Contains}
use Rattle.rbg_state.proofs.state.trials.is_among.Given as goal

abbrev pub invariant-loop-listed : goal.invariant-loop-listed
invariant-loop-listed l = ¬ Contains (take l.listed-index l.pieces) l.piece
