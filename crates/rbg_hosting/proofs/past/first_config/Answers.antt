-- The first match that has begun is found, or none has.
use Rattle.std.proofs.Common.{◌∙◌, sym, arith}
use Rattle.rbg_hosting.proofs.PastLemmas.{found_config, next_config, usual_config}
use Rattle.rbg_hosting.proofs.past.first_config.Goals as goal

pub returns-in-Some : goal.returns-in-Some
returns-in-Some c =
    c.config_of.ensures ∙ sym (c.loop-past.invariant ∙ found_config c.args.usual c.args.pasts.now c.loop-past.past-index c.past-item.result c.in-Some.script c.loop-past-test.true c.past-item.is c.in-Some.is)

pub loop-past-preserved : goal.loop-past-preserved
loop-past-preserved c =
    c.loop-past.invariant ∙ next_config c.args.usual c.args.pasts.now c.loop-past.past-index c.past-item.result c.loop-past-test.true c.past-item.is c.in-None.is

pub returns : goal.returns
returns c = sym (c.loop-past.invariant ∙ usual_config c.args.usual c.args.pasts.now c.loop-past.past-index (omega (arith, c.loop-past-test.false)))
