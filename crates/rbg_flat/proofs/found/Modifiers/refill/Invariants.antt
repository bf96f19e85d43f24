-- The pairs so far are there.
use Rattle.std.proofs.Common.{◌≡◌, take}
use Rattle.rbg_flat.proofs.found.Modifiers.refill.Given as goal

abbrev pub invariant-loop-pair : goal.invariant-loop-pair
invariant-loop-pair l = l.self ≡ take l.pair-index l.pairs
