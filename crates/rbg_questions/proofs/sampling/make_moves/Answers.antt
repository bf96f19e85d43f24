-- One more move is made, or there is none, or it isn't made.
use Rattle.std.proofs.Common.{Bool, arith, subst}
use Rattle.rbg_base.proofs.Errors.{passed_on}
use Rattle.rbg_questions.specs.internal.Searching.{TellsMove}
use Rattle.rbg_questions.proofs.Sampled.{made_all, made_more, made_none, made_over, stuck_at}
use Rattle.rbg_questions.proofs.sampling.make_moves.Goals as goal

pub loop-made-init : goal.loop-made-init
loop-made-init c = (c.requires.place, made_none _ _ _ c.requires.none)

pub loop-made-preserved : goal.loop-made-preserved
loop-made-preserved c = (
  c.in_ok-make_one.ensures.in_game,
  made_more _ _ _ _ c.loop-made.made _ _ c.loop-made.invariant.1
      (subst (λ (moved : Bool). TellsMove c.args.game.now c.loop-made.place c.loop-made.lines.items moved c.make_one.new.place c.make_one.new.lines.items) c.if-not-branch.false c.in_ok-make_one.ensures.moves),
)

pub returns-in_err-make_one-clause-unsampled : goal.returns-in_err-make_one-clause-unsampled
returns-in_err-make_one-clause-unsampled c =
    passed_on c.from_residual.result c.in_err-make_one.field-0.0 _ c.from_residual.ensures.1 (stuck_at _ _ _ _ c.loop-made.made _ _ c.loop-made.invariant.1 c.loop-made-test.true c.in_err-make_one.ensures.unmoved)

pub returns-then-not-branch-clause-made : goal.returns-then-not-branch-clause-made
returns-then-not-branch-clause-made c =
    made_over _ _ _ _ _ c.loop-made.made _ _ c.loop-made.invariant.1 c.loop-made-test.true
    (subst (λ (moved : Bool). TellsMove c.args.game.now c.loop-made.place c.loop-made.lines.items moved c.make_one.new.place c.make_one.new.lines.items) c.if-not-branch.true c.in_ok-make_one.ensures.moves)

pub returns-clause-made : goal.returns-clause-made
returns-clause-made c = made_all _ _ _ _ c.loop-made.made _ c.loop-made.invariant.1 (omega (arith, c.loop-made-test.false))
