use Rattle.rbg_base.proofs.Common.{sym, subst, Contains, err_from_is_err_and}
use Rattle.rbg_grammar.specs.Views.{name_of, edge_of}
use Rattle.rbg_grammar.specs.declared.description.Edge.{Edge}
use Rattle.rbg_game.proofs.Lists.{AllZip-step}
use Rattle.rbg_game.specs.internal.Graphs.{IsTarget, IsEdge}
use Rattle.rbg_game.proofs.GraphSteps.{known_found, target_of}
use Rattle.rbg_game.proofs.checking.graphs.number_edges.Goals as goal

pub returns-in_err-direction-clause-memory : goal.returns-in_err-direction-clause-memory
returns-in_err-direction-clause-memory c =
    let edge = c.edge-item.result in
    let p = err_from_is_err_and c.from_residual-in_err-direction.result c.from_residual-in_err-direction.ensures.1 in
    let there : Contains c.args.directions.now edge.direction.text.now =
    subst (λ (e : Edge). Contains c.args.directions.now e.direction.text.now) (sym c.edge-item.is) (c.requires.known c.loop-edge.edge-index edge c.loop-edge-test.true) in
    rw (p.1, p.2) (known_found c.args.directions.now (name_of edge.direction) c.in_err-direction.field-0.0 there c.in_err-direction.ensures.fault)

pub loop-edge-preserved : goal.loop-edge-preserved
loop-edge-preserved c =
    let names = c.args.names.now in
    let edge = c.edge-item.result in
    let found = c.number_of.result in
    let target = subst (IsTarget names (name_of edge.target)) (sym c.unwrap_or-target.ensures) (target_of names (name_of edge.target) found c.len.result c.number_of.ensures c.len.ensures.count) in
    rw c.in_ok-push.ensures.items
    (AllZip-step (IsEdge c.args.directions.now names) edge_of c.args.edges.now c.loop-edge.numbers.items c.loop-edge.edge-index edge (c.in_ok-direction.direction, c.unwrap_or-target.result) c.loop-edge-test.true c.edge-item.is c.loop-edge.invariant
    (record { direction = c.in_ok-direction.ensures.number; target = target }))
