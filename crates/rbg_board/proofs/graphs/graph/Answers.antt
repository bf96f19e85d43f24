-- A refusal of the edges is a refusal of the graph.
use Rattle.rbg_base.proofs.Common.{length, sym, arith, eqb-false, MatchResult-weaker}
use Rattle.rbg_board.proofs.Common.{HasCount, written_of}
use Rattle.rbg_board.proofs.CellReads.{length-written}
use Rattle.rbg_board.proofs.GraphEdges.{refusal_of_wiring}
use Rattle.rbg_board.proofs.graphs.graph.Goals as goal

pub returns-clause-refusal : goal.returns-clause-refusal
returns-clause-refusal c =
    let some = eqb-false (length c.args.cells.now) 0 (sym c.if-is_empty.ensures) in
    let cells = length-written c.args.cells.now in
    let count : HasCount (written_of c.args.cells.now) = record { some = omega (arith, some, cells); fits = omega (arith, cells) } in
    MatchResult-weaker c.wire.result c.wire.ensures.refusal (λ board known. tt) (λ error refused. refusal_of_wiring (written_of c.args.cells.now) error count c.in_ok-index.ensures.differ c.if-some_leads_twice.ensures refused)
