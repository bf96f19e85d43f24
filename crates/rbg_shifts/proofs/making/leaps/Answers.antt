use Rattle.std.proofs.Common.{subst}
use Rattle.rbg_rules.specs.Meaning.{AbstractGame}
use Rattle.rbg_shifts.specs.Made.{AreLeapsOf}
use Rattle.rbg_shifts.proofs.making.leaps.Goals as goal

pub returns-clause-made : goal.returns-clause-made
returns-clause-made g c = subst (λ (game : AbstractGame). AreLeapsOf game c.in_ok-laid.laid) c.new-ground.ensures c.in_ok-laid.ensures
