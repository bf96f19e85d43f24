-- The moves so far have led here, and the match ends, goes on, or isn't played on.
use Rattle.std.proofs.Common.{arith, ◌∙◌}
use Rattle.rbg_questions.specs.declared.question_error.QuestionError.TheVariants.{Memory}
use Rattle.rbg_base.proofs.Errors.{passed_on}
use Rattle.rbg_questions.proofs.PlayedMatches.{ends_over, ends_stopped, played_none, played_one, unplayed_here, unplayed_memory}
use Rattle.rbg_questions.proofs.chance.play_match.Goals as goal

pub loop-moves-init : goal.loop-moves-init
loop-moves-init c =
    (rw (c.in_ok-at.ensures.copy, c.place.ensures.place) c.place.ensures.in_game, played_none _ _ _ (c.in_ok-at.ensures.copy ∙ c.place.ensures.place))

pub move_on-requires : goal.move_on-requires
move_on-requires c = rw c.played-game.ensures c.loop-moves.invariant.0

pub loop-moves-preserved : goal.loop-moves-preserved
loop-moves-preserved c = (
  rw c.played-game.ensures at c.in_ok-move_on.ensures.in_game,
  played_one _ _ _ _ c.loop-moves.moves c.loop-moves.invariant.1
      (rw (c.played-game.ensures, c.if-not-branch.false) at c.in_ok-move_on.ensures.moves),
)

pub returns-in_err-at-clause-unplayed : goal.returns-in_err-at-clause-unplayed
returns-in_err-at-clause-unplayed c =
    passed_on c.from_residual.result Memory _ c.from_residual.ensures.1 (unplayed_memory _ _)

pub returns-in_err-move_on-clause-unplayed : goal.returns-in_err-move_on-clause-unplayed
returns-in_err-move_on-clause-unplayed c =
    passed_on c.from_residual-in_err-move_on.result c.in_err-move_on.field-0.0 _ c.from_residual-in_err-move_on.ensures.1
    (unplayed_here _ _ c.loop-moves.at c.loop-moves.moves _ c.loop-moves.invariant.1 (omega (arith, c.loop-moves-test.true)) (rw c.played-game.ensures at c.in_err-move_on.ensures.unmoved))

pub returns-then-not-branch-clause-ends : goal.returns-then-not-branch-clause-ends
returns-then-not-branch-clause-ends c =
    ends_over _ _ c.loop-moves.at c.move_on.new.place c.loop-moves.moves c.from.result _ (omega (arith, c.from.ensures)) c.loop-moves.invariant.1 (omega (arith, c.loop-moves-test.true))
    (rw (c.played-game.ensures, c.if-not-branch.true) at c.in_ok-move_on.ensures.moves)
    (rw c.played-game.ensures at c.scores-scores.ensures.values)

pub returns-clause-ends : goal.returns-clause-ends
returns-clause-ends c = ends_stopped _ _ _ c.loop-moves.moves _ c.loop-moves.invariant.1 (omega (arith, c.loop-moves-test.false)) (omega (arith, c.from-2.ensures))
