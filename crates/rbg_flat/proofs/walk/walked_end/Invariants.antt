-- The walk so far.
use Rattle.rbg_rules.specs.Meaning.{inside, beginning}
use Rattle.rbg_flat.proofs.Common.{at_vertex}
use Rattle.rbg_flat.specs.internal.Walking.{Walks}
use Rattle.rbg_flat.proofs.walk.walked_end.Given as goal

abbrev pub invariant-loop : goal.invariant-loop
invariant-loop l = Walks l.game l.state.state (at_vertex l.state.state l.vertex) (beginning (inside l.pattern)) l.walk l.ends
