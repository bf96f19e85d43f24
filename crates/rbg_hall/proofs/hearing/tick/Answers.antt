use Rattle.std.proofs.Common.{get_or, ap, arith}
use Rattle.rbg_hall.proofs.Taking.{on_error}
use Rattle.rbg_hall.proofs.Ticking.{none_ticked, one_ticked, all_have, ticking_stops}
use Rattle.rbg_hall.proofs.hearing.tick.Goals as goal

pub loop-index-init : goal.loop-index-init
loop-index-init g c = none_ticked g.W.Log.told c.args.at c.args.tables.now c.args.out.now

pub loop-index-preserved : goal.loop-index-preserved
loop-index-preserved g c = one_ticked (get_or c.loop-index.tables c.loop-index.index c.index-tables-index.result) c.hear.new.self c.loop-index.invariant (omega arith) (ap (get_or c.loop-index.tables c.loop-index.index) c.index-tables-index.is) c.in_ok-hear.ensures.hears c.hear.ensures.committed

pub returns-clause-hears : goal.returns-clause-hears
returns-clause-hears g c = all_have c.loop-index.invariant (omega (arith, c.loop-index.invariant.same_count))

pub returns-in_err-hear-clause-stops : goal.returns-in_err-hear-clause-stops
returns-in_err-hear-clause-stops g c = on_error _ (ticking_stops (get_or c.loop-index.tables c.loop-index.index c.index-tables-index.result) c.hear.new.self c.loop-index.invariant (ap (get_or c.loop-index.tables c.loop-index.index) c.index-tables-index.is) c.in_err-hear.ensures.fails)
