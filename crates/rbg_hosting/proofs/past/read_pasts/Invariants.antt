-- The first logs are read, and no file has changed.
use Rattle.std.proofs.Common.{◌≡◌, length}
use Rattle.rbg_console.specs.Files.{KeepsFiles}
use Rattle.rbg_hosting.specs.Pasts.{AreLogs, log_name}
use Rattle.rbg_hosting.specs.internal.Resuming.{pasts_in}
use Rattle.rbg_hosting.proofs.past.read_pasts.Given as goal

abbrev pub invariant-loop-index : goal.invariant-loop-index
invariant-loop-index g l = record {
  as_many : length l.pasts.items ≡ l.index;
  logs : AreLogs (λ number. g.F.Files.told l.initial.files (log_name l.name number)) (pasts_in l.pasts.items);
  kept : KeepsFiles (g.F.Files.told l.initial.files) (g.F.Files.told l.files);
}
