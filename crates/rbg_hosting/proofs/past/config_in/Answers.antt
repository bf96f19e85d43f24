-- One more match has the config.
use Rattle.std.proofs.Common.{rules}
use Rattle.rbg_hosting.proofs.PastLemmas.{config_more}
use Rattle.rbg_hosting.proofs.past.config_in.Goals as goal

pub loop-past-preserved : goal.loop-past-preserved
loop-past-preserved c =
    config_more c.first_config-config.result c.args.pasts.now c.loop-past.past-index c.past-item.result c.loop-past-test.true c.past-item.is c.loop-past.invariant (c.has_config.ensures (search rules))
