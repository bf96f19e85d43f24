-- One pair is left, and it stands after all that were tried.
use Rattle.std.proofs.Common.{◌<◌, ◌-◌, ◌^◌, length}
use Rattle.rbg_rules.specs.Meaning.{inside, beginning}
use Rattle.rbg_search.proofs.Along.{IsPositionOf, at_vertex}
use Rattle.rbg_search.specs.internal.Straight.{IsScanning}
use Rattle.rbg_search.proofs.scan.scan_inside.Given as goal

abbrev pub invariant-loop-to : goal.invariant-loop-to
invariant-loop-to g l = record {
  scanning : IsScanning l.rules (at_vertex l.state.state l.fn.vertex) (beginning (inside l.pattern)) l.vertex l.position l.ends l.shifts l.pairs;
  there : l.vertex < length l.rules.board.first;
  position : IsPositionOf l.rules.rules l.position;
  few : l.pairs < l.position;
}

abbrev pub decreases-loop-to : goal.decreases-loop-to
decreases-loop-to g l = 2 ^ 32 - l.position
