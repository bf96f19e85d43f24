-- The keeper moves while none can be made.
use Rattle.std.proofs.Common.{◌≡◌, false, true, subst}
use Rattle.rbg_view.specs.Moving.Waits.{at_once}
use Rattle.rbg_view.specs.internal.Trying.{TellsFirst, TellsKeeper}
use Rattle.rbg_view.proofs.Trying.{heavy_to_find, heavy_to_try, none_made, same_error, tired, waits_longer}
use Rattle.rbg_view.proofs.scene.Scene.make_one.Goals as goal

pub loop-self-init : goal.loop-self-init
loop-self-init c = at_once

pub returns-in_err-make_first-clause-heavy : goal.returns-in_err-make_first-clause-heavy
returns-in_err-make_first-clause-heavy c =
    λ is.
    heavy_to_try c.args.readings.now c.args.self.now.play c.loop-self.self.play c.make_first.new.self.play c.loop-self.invariant
    (c.make_first.ensures.heavy (same_error c.make_first.result c.from_residual.result c.in_err-make_first.field-0.0 _ c.from_residual.ensures.1 c.in_err-make_first.was is))

pub returns-in_err-move_keeper-clause-heavy : goal.returns-in_err-move_keeper-clause-heavy
returns-in_err-move_keeper-clause-heavy c =
    λ is.
    let first = subst (TellsFirst c.args.readings.now c.loop-self.self.play c.make_first.new.self.play) c.if-branch.false c.in_ok-make_first.ensures.made in
    heavy_to_find c.args.readings.now c.args.self.now.play c.loop-self.self.play c.make_first.new.self.play c.move_keeper.new.self.play c.loop-self.invariant first
    (c.move_keeper.ensures.heavy (same_error c.move_keeper.result c.from_residual-in_err-move_keeper.result c.in_err-move_keeper.field-0.0 _ c.from_residual-in_err-move_keeper.ensures.1 c.in_err-move_keeper.was is))

pub returns-in_err-move_keeper-clause-endless : goal.returns-in_err-move_keeper-clause-endless
returns-in_err-move_keeper-clause-endless c =
    λ is.
    let first = subst (TellsFirst c.args.readings.now c.loop-self.self.play c.make_first.new.self.play) c.if-branch.false c.in_ok-make_first.ensures.made in
    tired c.args.readings.now c.args.self.now.play c.loop-self.self.play c.make_first.new.self.play c.move_keeper.new.self.play c.loop-self.invariant first
    (c.move_keeper.ensures.endless (same_error c.move_keeper.result c.from_residual-in_err-move_keeper.result c.in_err-move_keeper.field-0.0 _ c.from_residual-in_err-move_keeper.ensures.1 c.in_err-move_keeper.was is))

pub returns-then-not-branch-clause-made : goal.returns-then-not-branch-clause-made
returns-then-not-branch-clause-made c =
    let first = subst (TellsFirst c.args.readings.now c.loop-self.self.play c.make_first.new.self.play) c.if-branch.false c.in_ok-make_first.ensures.made in
    let still : c.in_ok-move_keeper.field-0 ≡ false = c.if-not-branch.true in
    none_made c.args.readings.now c.args.self.now.play c.loop-self.self.play c.make_first.new.self.play c.move_keeper.new.self.play c.loop-self.invariant first
    (subst (TellsKeeper c.make_first.new.self.play c.move_keeper.new.self.play) still c.in_ok-move_keeper.ensures.moved)

pub loop-self-preserved : goal.loop-self-preserved
loop-self-preserved c =
    let first = subst (TellsFirst c.args.readings.now c.loop-self.self.play c.make_first.new.self.play) c.if-branch.false c.in_ok-make_first.ensures.made in
    let moved : c.in_ok-move_keeper.field-0 ≡ true = c.if-not-branch.false in
    waits_longer c.args.readings.now c.args.self.now.play c.loop-self.self.play c.make_first.new.self.play c.move_keeper.new.self.play c.loop-self.invariant first
    (subst (TellsKeeper c.make_first.new.self.play c.move_keeper.new.self.play) moved c.in_ok-move_keeper.ensures.moved)
