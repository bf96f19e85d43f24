-- Nothing was handed over.
use Rattle.std.proofs.Common.{◌≡◌, List}
use Rattle.rbg_network.specs.Archives.{Handed}
use Rattle.rbg_hosting.proofs.archive.begin_records.Given as goal

abbrev pub invariant-loop-index : goal.invariant-loop-index
invariant-loop-index g l = record {
  handed : (so_far : List Handed) → g.A.Archive.handed l.initial.archive so_far → g.A.Archive.handed l.archive so_far;
  wants : g.A.Archive.wants l.archive ≡ g.A.Archive.wants l.initial.archive;
}
