-- The values are told.
use Rattle.std.proofs.Common.{ap}
use Rattle.rbg_c.specs.States.{AbstractState}
use Rattle.rbg_c.proofs.Filled.{fetched_items}
use Rattle.rbg_c.proofs.asking.rbg_values.Goals as goal

pub returns : goal.returns
returns c =
    fetched_items _ _ _ _ _ _ _ _ _ c.in-Some.ensures.taken c.put.ensures (ap (λ (s : AbstractState). s.place.state.values) c.deref.ensures) c.fill_values-result.ensures
