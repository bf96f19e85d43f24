-- Where the ends are asked for, the keeper's moves lead to a place where play rests, or not. Where there is a move there,
-- play isn't finished.
use Rattle.std.proofs.Common.{inr, refl, subst, sym}
use Rattle.rbg_questions.specs.Counting.{AreCounted}
use Rattle.rbg_questions.specs.Refusals.{IsNotCounted}
use Rattle.rbg_questions.specs.declared.extent.Extent.TheVariants.{Ends}
use Rattle.rbg_questions.specs.declared.error.CountError.TheVariants.{Unsettled}
use Rattle.rbg_questions.specs.internal.CountRefusing.{error_of_over}
use Rattle.rbg_questions.proofs.Refusing.{over_to_find, unsettled_refused}
use Rattle.rbg_base.proofs.Errors.{passed_on}
use Rattle.rbg_questions.proofs.counting.count_none.Goals as goal

pub returns-in_err-settle-in-Ends-clause-refused : goal.returns-in_err-settle-in-Ends-clause-refused
returns-in_err-settle-in-Ends-clause-refused c =
    passed_on c.from_residual.result (Unsettled c.in_err-settle-in-Ends.field-0.0) _ c.from_residual.ensures.1
    (subst (λ e. IsNotCounted c.args.game.now 0 e c.args.place.now (Unsettled c.in_err-settle-in-Ends.field-0.0)) (sym c.in-Ends.is)
    (unsettled_refused _ _ 0 Ends _ c.in_err-settle-in-Ends.field-0.0 tt c.in_err-settle-in-Ends.ensures.heavy c.in_err-settle-in-Ends.ensures.endless))

pub returns-in_err-has_move-in-Ends-clause-refused : goal.returns-in_err-has_move-in-Ends-clause-refused
returns-in_err-has_move-in-Ends-clause-refused c =
    passed_on c.from_residual-in_err-has_move-in-Ends.result (error_of_over c.in_err-has_move-in-Ends.field-0.0) _ c.from_residual-in_err-has_move-in-Ends.ensures.1
    (subst (λ e. IsNotCounted c.args.game.now 0 e c.args.place.now (error_of_over c.in_err-has_move-in-Ends.field-0.0)) (sym c.in-Ends.is)
    (over_to_find _ _ _ c.in_err-has_move-in-Ends.field-0.0 c.in_err-has_move-in-Ends.ensures.tells.given_up.heavy c.args.place.now c.in_ok-settle-in-Ends.ensures.settles))

pub returns-then-branch-clause-counted : goal.returns-then-branch-clause-counted
returns-then-branch-clause-counted c =
    let some = c.in_ok-has_move-in-Ends.ensures.tells.some c.if-branch.true in
    subst (λ e. AreCounted c.args.game.now 0 e c.args.place.now 1 0) (sym c.in-Ends.is)
    (c.settle.new.place, c.in_ok-settle-in-Ends.ensures.settles, refl, inr (refl, λ finished. finished.no_move some.0 some.1.0 some.1.1))
