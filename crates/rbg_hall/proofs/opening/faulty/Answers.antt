use Rattle.std.proofs.Common.{rules}
use Rattle.rbg_match.specs.Config.{IsWithinLimits}
use Rattle.rbg_hall.proofs.Openings.{fault_found, one_more, all_have}
use Rattle.rbg_hall.proofs.opening.faulty.Goals as goal

pub returns-then-not-is_within_limits-clause-found : goal.returns-then-not-is_within_limits-clause-found
returns-then-not-is_within_limits-clause-found c =
    let faulty : ¬ IsWithinLimits c.index-tables-index.result.config = search rules in
    fault_found c.args.tables.now c.loop-index.index c.index-tables-index.result c.index-tables-index.is c.loop-index-test.true faulty c.loop-index.invariant

pub loop-index-preserved : goal.loop-index-preserved
loop-index-preserved c =
    let limits : IsWithinLimits c.index-tables-index.result.config = search rules in
    one_more c.args.tables.now c.loop-index.index c.index-tables-index.result c.index-tables-index.is limits c.loop-index.invariant

pub returns-clause-none : goal.returns-clause-none
returns-clause-none c = all_have c.args.tables.now c.loop-index.index c.loop-index-test.false c.loop-index.invariant
