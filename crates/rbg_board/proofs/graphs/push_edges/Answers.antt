-- The row of the table gains one edge at a time.
use Rattle.rbg_base.proofs.Common.{◌≡◌, ℕ, ◌+◌, ◌<◌, Some, IsSome, get_or, set, nat_eq, refl, sym, subst, arith, below_more, get_or_default}
use Rattle.std.specs.HashMap as hash
use Rattle.rbg_board.specs.Wiring.{EdgesRefusal}
use Rattle.rbg_board.proofs.Wirings.{FillsRow, fills_more, fills_all}
use Rattle.rbg_board.proofs.graphs.push_edges.Goals as goal

pub returns-in-None-clause-refusal : goal.returns-in-None-clause-refusal
unfolding EdgesRefusal
returns-in-None-clause-refusal c =
    let edges = c.args.edges.now in
    let i = c.loop-edge.edge-index in
    (i, get_or edges i (0, 0), c.loop-edge-test.true, get_or_default edges i (get_or edges i (0, 0)) (0, 0) c.loop-edge-test.true, sym c.in-None.ensures.value)

pub loop-edge-preserved : goal.loop-edge-preserved
loop-edge-preserved c =
    let index = hash.get nat_eq c.args.index.now in
    let width = c.args.width in
    let edges = c.args.edges.now in
    let i = c.loop-edge.edge-index in
    let old = c.args.table.now.items in
    let new = c.loop-edge.table.items in
    let known : index (get_or edges i (0, 0)).1 ≡ Some c.in-Some.vertex.now = sym c.in-Some.ensures.value in
    let covered : (get_or edges i (0, 0)).0 < width = c.requires.covers i (0, 0) c.loop-edge-test.true in
    let more = fills_more index width edges i old new c.loop-edge.invariant.fills c.in-Some.vertex.now c.loop-edge-test.true known covered c.requires.different in
    record {
      start = c.loop-edge.invariant.start;
      fills = subst (λ n. FillsRow index width edges (i + 1) old (set new (n + (get_or edges i (0, 0)).0) (Some c.in-Some.vertex.now))) (sym c.loop-edge.invariant.start) more;
      known = below_more _ _ c.loop-edge.invariant.known (subst IsSome (sym known) refl);
    }

pub returns-clause-row : goal.returns-clause-row
returns-clause-row c = fills_all (hash.get nat_eq c.args.index.now) c.args.width c.args.edges.now c.loop-edge.edge-index c.args.table.now.items c.loop-edge.table.items c.loop-edge.invariant.fills (omega arith)

pub returns-clause-known : goal.returns-clause-known
returns-clause-known c = λ k d within. subst (λ (e : ℕ × ℕ). IsSome (hash.get nat_eq c.args.index.now e.1)) (get_or_default c.args.edges.now k (0, 0) d within) (c.loop-edge.invariant.known k (omega arith))
