use Rattle.std.proofs.Common.{ℕ, List, map, subst, sym, arith}
use Rattle.rbg_grammar.proofs.Common.{graph, vertex_of}
use Rattle.rbg_game.proofs.Common.{GameError, HasBoardFault, board_memory, no_graph}
use Rattle.rbg_base.proofs.Errors.{passed_on}
use Rattle.rbg_game.proofs.GraphSteps.{name_again, name_new}
use Rattle.rbg_game.proofs.Joining.{still_differ}
use Rattle.rbg_game.proofs.checking.graphs.name_vertices.Goals as goal

pub returns-in_err-join-clause-fault : goal.returns-in_err-join-clause-fault
returns-in_err-join-clause-fault c =
    let P : GameError → Type 0 = λ e. (pieces : List (List ℕ)) → HasBoardFault pieces (graph (map vertex_of c.args.vertices.now)) e in
    passed_on c.from_residual.result c.in_err-join.field-0.0 P c.from_residual.ensures.1 (subst (λ e. P e) (sym c.in_err-join.ensures.memory) (λ pieces. board_memory))

pub returns-then-branch-vertex-clause-fault : goal.returns-then-branch-vertex-clause-fault
returns-then-branch-vertex-clause-fault c = λ pieces. no_graph
    (name_again c.args.vertices.now c.loop-vertex.vertex c.index-vertices-vertex.result c.loop-vertex.names c.join.new.table c.in_ok-join.field-0 c.loop-vertex-test.true c.index-vertices-vertex.is c.loop-vertex.invariant.0 c.in_ok-join.ensures.number c.if-branch-vertex.true)

pub loop-vertex-preserved : goal.loop-vertex-preserved
loop-vertex-preserved c =
    let joins = c.in_ok-join.ensures.number in (
      name_new c.args.vertices.now c.loop-vertex.vertex c.index-vertices-vertex.result c.loop-vertex.names c.join.new.table c.in_ok-join.field-0 c.loop-vertex-test.true c.index-vertices-vertex.is c.loop-vertex.invariant.0 joins (λ less. absurd (omega (arith, less, c.if-branch-vertex.false))),
      still_differ c.loop-vertex.names c.join.new.table _ c.in_ok-join.field-0 joins c.loop-vertex.invariant.1,
    )
