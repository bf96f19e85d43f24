use Rattle.std.proofs.Common.{◌≡◌, take}
use Rattle.rbg_match.proofs.turns.scores.Given as goal

abbrev pub invariant-loop-index : goal.invariant-loop-index
invariant-loop-index l = l.scores ≡ take l.index l.found.items
