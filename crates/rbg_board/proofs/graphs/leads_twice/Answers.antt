-- Two edges of one direction.
use Rattle.rbg_board.proofs.CellReads.{differ_more}
use Rattle.rbg_board.proofs.graphs.leads_twice.Goals as goal

pub loop-i-preserved : goal.loop-i-preserved
loop-i-preserved c = differ_more c.args.edges.now c.loop-i.i c.loop-i-test.true c.if-leads.ensures c.loop-i.invariant
