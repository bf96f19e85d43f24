-- The places of the first matches.
use Rattle.std.proofs.Common.{◌≡◌, ◌+◌, ◌++◌, drop}
use Rattle.rbg_hosting.specs.internal.Resuming.{places_from}
use Rattle.rbg_hosting.proofs.seats.places_of.Given as goal

abbrev pub invariant-loop-index : goal.invariant-loop-index
invariant-loop-index g l = l.places.items ++ places_from l.hall.state.tables (l.index + 1) (drop l.index l.players) ≡ places_from l.hall.state.tables 1 l.players
