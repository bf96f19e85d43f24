-- The record isn't right, or the place to which it leads has no description.
use Rattle.rbg_position.specs.Refusals.IsNoPosition.{wrong, undescribed}
use Rattle.rbg_position.specs.declared.error.PositionError.TheVariants.{Record}
use Rattle.rbg_base.proofs.Errors.{passed_on}
use Rattle.rbg_position.proofs.description.position.Goals as goal

pub returns-in_err-place-clause-refused : goal.returns-in_err-place-clause-refused
returns-in_err-place-clause-refused c =
    passed_on c.from_residual.result (Record c.in_err-place.field-0.0) _ c.from_residual.ensures.1 (wrong c.in_err-place.ensures.misfit)

pub returns-in_err-new-clause-refused : goal.returns-in_err-new-clause-refused
returns-in_err-new-clause-refused c =
    passed_on c.from_residual-in_err-new.result c.in_err-new.field-0.0 _ c.from_residual-in_err-new.ensures.1
    (undescribed c.in_ok-place.ensures.place c.in_err-new.ensures.refused)

pub returns-clause-described : goal.returns-clause-described
returns-clause-described c = record {
  place = c.in_ok-place.place;
  after = c.in_ok-place.ensures.place;
  describes = c.in_ok-new.ensures.described;
}
