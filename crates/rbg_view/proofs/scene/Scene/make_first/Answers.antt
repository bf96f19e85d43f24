-- One reading after the other.
use Rattle.std.proofs.Common.{subst, ◌∙◌, arith}
use Rattle.rbg_view.specs.internal.Trying.{TellsMade}
use Rattle.rbg_view.proofs.Trying.{first_made, heavy_at, none_more, none_of_all, same_error}
use Rattle.rbg_view.proofs.scene.Scene.make_first.Goals as goal

pub returns-in_err-make-clause-heavy : goal.returns-in_err-make-clause-heavy
returns-in_err-make-clause-heavy c =
    λ is.
    heavy_at c.args.readings.now c.args.self.now.play c.loop-reading.self.play c.loop-reading.reading-index c.reading-item.result (omega arith) c.reading-item.is c.loop-reading.invariant.0 c.make.new.self.play
    (c.make.ensures.heavy (same_error c.make.result c.from_residual.result c.in_err-make.field-0.0 _ c.from_residual.ensures.1 c.in_err-make.was is))

pub returns-then-branch-clause-made : goal.returns-then-branch-clause-made
returns-then-branch-clause-made c =
    let made = subst (TellsMade c.reading-item.result c.loop-reading.self.play c.make.new.self.play) c.if-branch.true c.in_ok-make.ensures.made in
    first_made c.args.readings.now c.args.self.now.play c.loop-reading.self.play c.make.new.self.play c.loop-reading.reading-index c.reading-item.result (omega arith) c.reading-item.is c.loop-reading.invariant.0 c.loop-reading.invariant.1 made

pub loop-reading-preserved : goal.loop-reading-preserved
loop-reading-preserved c =
    let made = subst (TellsMade c.reading-item.result c.loop-reading.self.play c.make.new.self.play) c.if-branch.false c.in_ok-make.ensures.made in (
      made.0 ∙ c.loop-reading.invariant.0,
      none_more c.args.readings.now c.args.self.now.play c.loop-reading.self.play c.loop-reading.reading-index c.reading-item.result (omega arith) c.reading-item.is c.loop-reading.invariant.0 c.loop-reading.invariant.1 made.1,
    )

pub returns-clause-made : goal.returns-clause-made
returns-clause-made c = (
  c.loop-reading.invariant.0,
  none_of_all c.args.readings.now c.args.self.now.play c.loop-reading.reading-index (omega arith) c.loop-reading.invariant.1,
)
