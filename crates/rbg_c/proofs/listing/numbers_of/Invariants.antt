-- The numbers of the moves so far.
use Rattle.std.proofs.Common.{◌≡◌, take}
use Rattle.rbg_c.specs.Listing.{numbers_of_moves}
use Rattle.rbg_c.proofs.listing.numbers_of.Given as goal

abbrev pub invariant-loop-index : goal.invariant-loop-index
invariant-loop-index l = l.numbers.items ≡ numbers_of_moves (take l.index l.moves)
