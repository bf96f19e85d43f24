-- The first matches have the config.
use Rattle.std.proofs.Common.{All, take}
use Rattle.rbg_hosting.specs.Pasts.{HasConfig}
use Rattle.rbg_hosting.specs.internal.Resuming.{pasts_in}
use Rattle.rbg_hosting.proofs.past.config_in.Given as goal

abbrev pub invariant-loop-past : goal.invariant-loop-past
invariant-loop-past l = All (HasConfig l.config) (pasts_in (take l.past-index l.pasts))
