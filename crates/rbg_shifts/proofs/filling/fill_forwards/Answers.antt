use Rattle.std.proofs.Common.{◌≡◌, ℕ, length, subst, arith}
use Rattle.rbg_shifts.specs.internal.Tables.{FillsUpTo}
use Rattle.rbg_shifts.proofs.Fillings.{no_vertex, one_more_vertex}
use Rattle.rbg_shifts.proofs.filling.fill_forwards.Goals as goal

pub loop-index-init : goal.loop-index-init
loop-index-init c = no_vertex c.args.ground.now c.args.lists.now c.args.table.now c.args.node c.requires.right.sound

pub loop-index-preserved : goal.loop-index-preserved
loop-index-preserved c =
    let count = c.vertices-index-end.ensures.count in
    one_more_vertex c.args.ground.now c.args.lists.now c.args.table.now c.loop-index.table c.fill_one.new.table c.args.node c.loop-index.index (omega (arith, count, c.loop-index-test.true)) c.loop-index.invariant c.in_ok-fill_one.ensures

pub returns : goal.returns
returns c =
    let count = c.vertices-index-end.ensures.count in
    let all : c.loop-index.index ≡ length c.args.ground.now.board.first = omega (arith, count, c.loop-index-test.false, c.loop-index.auto.index-end) in
    subst (λ (many : ℕ). FillsUpTo c.args.ground.now c.args.lists.now c.args.table.now c.loop-index.table c.args.node many) all c.loop-index.invariant
