use Rattle.std.proofs.Common.{◌+◌, ◌*◌, ◌<◌, ℕ, length, sym, subst, arith}
use Rattle.rbg_shifts.specs.Entries.{end_of}
use Rattle.rbg_shifts.proofs.Fillings.{no_vertex, one_more_vertex, one_put, whole_of_one}
use Rattle.rbg_shifts.proofs.Tabling.{grows_none, place_there}
use Rattle.rbg_shifts.proofs.filling.share_node.Goals as goal

pub loop-index-init : goal.loop-index-init
loop-index-init c = no_vertex c.args.ground.now c.args.lists.now c.args.table.now c.args.only.now.node c.requires.at.right.sound

pub share-requires-clause-there : goal.share-requires-clause-there
share-requires-clause-there c =
    let laid_out = c.loop-index.invariant.sound.laid_out in
    let count = c.vertices-index-end.ensures.count in
    let many : ℕ = c.loop-index.table.vertices in
    let below : c.loop-index.index < length c.args.ground.now.board.first = omega (arith, count, c.loop-index-test.true) in
    let inside : c.loop-index.index < many = subst (λ (n : ℕ). c.loop-index.index < n) (sym laid_out.vertices) below in
    subst (λ (n : ℕ). c.args.only.now.node * many + c.loop-index.index < n) (sym laid_out.size) (place_there (length c.args.lists.now.interner.nodes.items) c.args.only.now.node many c.loop-index.index c.requires.at.node inside)

pub loop-index-preserved : goal.loop-index-preserved
loop-index-preserved c =
    let count = c.vertices-index-end.ensures.count in
    let so_far = c.loop-index.invariant in
    let old = c.loop-index.table in
    let entry = c.entry_after-entry.result in
    let below : c.loop-index.index < length c.args.ground.now.board.first = omega (arith, count, c.loop-index-test.true) in
    let inside : c.loop-index.index < old.vertices = subst (λ (n : ℕ). c.loop-index.index < n) (sym so_far.sound.laid_out.vertices) below in
    one_more_vertex c.args.ground.now c.args.lists.now c.args.table.now old c.share.new.self c.args.only.now.node c.loop-index.index below so_far
    (one_put c.args.ground.now c.args.lists.now old old c.share.new.self c.args.only.now.node c.loop-index.index entry inside (grows_none (length old.targets.items) old) c.share.ensures so_far.sound c.entry_after-entry.ensures.sound
    (whole_of_one c.args.ground.now c.args.lists.now old c.args.only.now.node c.loop-index.index c.args.only.now.branch.position entry.start (end_of entry) entry.ends c.requires.only c.entry_after-entry.ensures.ends c.entry_after-entry.ensures.told))
