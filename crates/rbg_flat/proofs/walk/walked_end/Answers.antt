use Rattle.std.proofs.Common.{◌≡◌, ℕ, sym, subst}
use Rattle.rbg_rules.specs.Meaning.{inside, beginning, after}
use Rattle.rbg_shifts.proofs.Common.{EndsAcross}
use Rattle.rbg_flat.specs.declared.walk.Walk.{Walk}
use Rattle.rbg_flat.specs.internal.Walking.{TakesLast}
use Rattle.rbg_flat.proofs.Common.{at_vertex, IsDeadEnd}
use Rattle.rbg_flat.proofs.Stills.{learns_or}
use Rattle.rbg_flat.proofs.Walkings.{no_index, walk_begins, walk_more, walk_ends, no_walk, none_waits, was, starts, on_board}
use Rattle.rbg_flat.proofs.walk.walked_end.Goals as goal

pub lead-requires-clause-walk : goal.lead-requires-clause-walk
lead-requires-clause-walk c =
    let new = c.new-walk.ensures in
    no_walk c.args.game.now c.args.state.now.state c.new-walk.result new.marks new.todo new.many new.waiting

pub loop-init : goal.loop-init
loop-init c =
    let game = c.args.game.now in
    let s = c.args.state.now.state in
    let f = beginning (inside c.args.pattern) in
    let new = c.new-walk.ensures in
    let none = no_walk game s c.new-walk.result new.marks new.todo new.many new.waiting in
    walk_begins game c.requires.lawful s c.requires.fits f c.args.vertex c.requires.vertex c.new-walk.result c.lead.new.self none c.in_ok-ends.ends
    (λ v p there. no_index there.0 there.1) (none_waits c.new-walk.result new.waiting) (c.in_ok-ends.ensures.goes none) c.in_ok-ends.ensures.ends

pub take_last-requires-clause-todo : goal.take_last-requires-clause-todo
take_last-requires-clause-todo c = c.loop.invariant.is_walk.todo

pub take_last-requires-clause-room : goal.take_last-requires-clause-room
take_last-requires-clause-room c = c.loop.invariant.is_walk.room

pub returns-in_default : goal.returns-in_default
returns-in_default c =
    let game = c.args.game.now in
    let s = c.args.state.now.state in
    let f = beginning (inside c.args.pattern) in
    subst (λ (w : Walk). IsDeadEnd game (at_vertex s c.args.vertex) f w.many c.loop.ends) (sym c.in_default.ensures.kept)
    (walk_ends game c.requires.lawful s c.requires.fits f c.args.vertex c.requires.vertex c.loop.walk c.loop.ends c.loop.invariant c.in_default.ensures.none)

takes_next : (old new : Walk) (inner next : ℕ × ℕ) → inner ≡ next → TakesLast old new next.0 next.1 → TakesLast old new inner.0 inner.1
takes_next old new inner next same takes = subst (λ (x : ℕ × ℕ). TakesLast old new x.0 x.1) (sym same) takes

pub lead-requires-in-loop-clause-walk : goal.lead-requires-in-loop-clause-walk
lead-requires-in-loop-clause-walk c =
    let takes = takes_next c.loop.walk c.take_last.new.self (c.next.inside.vertex, c.next.inside.position) c.in-Some.next c.next.view_is c.in-Some.ensures.takes in
    was c.args.game.now c.requires.lawful c.args.state.now.state c.requires.fits (beginning (inside c.args.pattern)) c.args.vertex c.requires.vertex c.loop.walk c.take_last.new.self c.next.inside.vertex c.next.inside.position c.loop.ends c.loop.invariant takes

pub lead-requires-in-loop-clause-vertex : goal.lead-requires-in-loop-clause-vertex
lead-requires-in-loop-clause-vertex c =
    let takes = takes_next c.loop.walk c.take_last.new.self (c.next.inside.vertex, c.next.inside.position) c.in-Some.next c.next.view_is c.in-Some.ensures.takes in
    on_board c.args.game.now c.requires.lawful c.args.state.now.state c.requires.fits (beginning (inside c.args.pattern)) c.args.vertex c.requires.vertex c.loop.walk c.take_last.new.self c.next.inside.vertex c.next.inside.position c.loop.ends c.loop.invariant takes

pub lead-requires-in-loop-clause-stands : goal.lead-requires-in-loop-clause-stands
lead-requires-in-loop-clause-stands c =
    let takes = takes_next c.loop.walk c.take_last.new.self (c.next.inside.vertex, c.next.inside.position) c.in-Some.next c.next.view_is c.in-Some.ensures.takes in
    starts c.args.game.now c.requires.lawful c.args.state.now.state c.requires.fits (beginning (inside c.args.pattern)) c.args.vertex c.requires.vertex c.loop.walk c.take_last.new.self c.next.inside.vertex c.next.inside.position c.loop.ends c.loop.invariant takes

pub loop-preserved : goal.loop-preserved
loop-preserved c =
    let game = c.args.game.now in
    let s = c.args.state.now.state in
    let f = beginning (inside c.args.pattern) in
    let v : ℕ = c.next.inside.vertex in
    let q : ℕ = c.next.inside.position in
    let takes = takes_next c.loop.walk c.take_last.new.self (v, q) c.in-Some.next c.next.view_is c.in-Some.ensures.takes in
    let is = was game c.requires.lawful s c.requires.fits f c.args.vertex c.requires.vertex c.loop.walk c.take_last.new.self v q c.loop.ends c.loop.invariant takes in
    walk_more game c.requires.lawful s c.requires.fits f c.args.vertex c.requires.vertex c.loop.walk c.take_last.new.self v q c.loop.ends c.loop.invariant takes
    c.lead-in-loop.new.self _ (c.in_ok-ends-2.ensures.goes is)
    (learns_or c.loop.ends c.in_ok-ends-2.field-0 (EndsAcross game (after q) v) c.in_ok-ends-2.ensures.ends)
