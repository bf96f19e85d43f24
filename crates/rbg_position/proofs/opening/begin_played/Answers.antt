-- A step that fails returns why the game doesn't begin as play is at the place.
use Rattle.std.proofs.Common.{subst}
use Rattle.rbg_moves.specs.Settling.{Settles}
use Rattle.rbg_position.specs.Refusals.{IsUnsettled}
use Rattle.rbg_position.specs.Refusals.BeginsOtherwise.{moves, otherwise, unsettled}
use Rattle.rbg_position.specs.Refusals.IsUnsettled.{no_memory}
use Rattle.rbg_position.specs.declared.error.PositionError.TheVariants.{Memory}
use Rattle.rbg_base.proofs.Errors.{passed_on}
use Rattle.rbg_position.proofs.Beginnings.{settles_by_moves}
use Rattle.rbg_position.proofs.opening.begin_played.Goals as goal

pub returns-in_err-first-clause-otherwise : goal.returns-in_err-first-clause-otherwise
returns-in_err-first-clause-otherwise c = passed_on c.from_residual.result Memory _ c.from_residual.ensures.1 (unsettled no_memory)

pub returns-in_err-settle-clause-otherwise : goal.returns-in_err-settle-clause-otherwise
returns-in_err-settle-clause-otherwise c =
    passed_on c.from_residual-in_err-settle.result c.in_err-settle.field-0.0 _ c.from_residual-in_err-settle.ensures.1
    (unsettled (subst (λ p. IsUnsettled c.args.new.now p c.in_err-settle.field-0.0) c.in_ok-first.ensures.start c.in_err-settle.ensures.unsettled))

pub returns-in_err-compare-clause-otherwise : goal.returns-in_err-compare-clause-otherwise
returns-in_err-compare-clause-otherwise c =
    passed_on c.from_residual-in_err-compare.result c.in_err-compare.field-0.0 _ c.from_residual-in_err-compare.ensures.1
    (otherwise (subst (λ p. Settles c.args.new.now p c.settle.new.place) c.in_ok-first.ensures.start c.in_ok-settle.ensures.settles) c.in_err-compare.ensures.otherwise)

pub returns-in_err-same_moves-clause-otherwise : goal.returns-in_err-same_moves-clause-otherwise
returns-in_err-same_moves-clause-otherwise c = passed_on c.from_residual-in_err-same_moves.result Memory _ c.from_residual-in_err-same_moves.ensures.1 (unsettled no_memory)

pub returns-then-branch-clause-begins : goal.returns-then-branch-clause-begins
returns-then-branch-clause-begins c =
    settles_by_moves c.args.new.now c.args.old.now _ c.settle.new.place c.args.place.now c.in_ok-first.ensures.start c.in_ok-settle.ensures.settles c.in_ok-compare.ensures.alike c.as_game.ensures.lawful c.is_accepted.ensures c.requires.is
    (c.in_ok-same_moves.ensures.same c.if-branch.true)

pub returns-clause-otherwise : goal.returns-clause-otherwise
returns-clause-otherwise c =
    moves (subst (λ p. Settles c.args.new.now p c.settle.new.place) c.in_ok-first.ensures.start c.in_ok-settle.ensures.settles) c.in_ok-compare.ensures.alike
    (c.in_ok-same_moves.ensures.apart c.if-branch.false)
