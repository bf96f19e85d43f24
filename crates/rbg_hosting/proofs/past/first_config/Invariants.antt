-- None of the first matches has begun.
use Rattle.std.proofs.Common.{◌≡◌, drop}
use Rattle.rbg_hosting.specs.Pasts.{config_from}
use Rattle.rbg_hosting.specs.internal.Resuming.{pasts_in}
use Rattle.rbg_hosting.proofs.past.first_config.Given as goal

abbrev pub invariant-loop-past : goal.invariant-loop-past
invariant-loop-past l = config_from l.usual (pasts_in l.pasts) ≡ config_from l.usual (pasts_in (drop l.past-index l.pasts))
