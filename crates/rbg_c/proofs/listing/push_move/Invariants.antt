-- How many pairs there are, and those so far.
use Rattle.std.proofs.Common.{◌≡◌, ◌++◌, ◌∷◌, [], length, take}
use Rattle.std.specs.List.{flat_map}
use Rattle.rbg_c.specs.Listing.{numbers_of_pair}
use Rattle.rbg_c.proofs.listing.push_move.Given as goal

abbrev pub invariant-loop-pair : goal.invariant-loop-pair
invariant-loop-pair l = l.numbers.items ≡ l.fn.numbers.items ++ length l.pairs ∷ [] ++ flat_map numbers_of_pair (take l.pair-index l.pairs)
