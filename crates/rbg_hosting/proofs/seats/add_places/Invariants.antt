-- So many places are added.
use Rattle.std.proofs.Common.{◌≡◌, ◌++◌, replicate}
use Rattle.rbg_hosting.proofs.seats.add_places.Given as goal

abbrev pub invariant-loop : goal.invariant-loop
invariant-loop l = l.places.items ≡ l.initial.places.items ++ replicate l.counter l.place
