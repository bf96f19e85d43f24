-- The pieces are told.
use Rattle.std.proofs.Common.{ap, ◌∙◌}
use Rattle.rbg_c.specs.States.{AbstractState}
use Rattle.rbg_c.proofs.Filled.{fetched_items}
use Rattle.rbg_c.proofs.asking.rbg_board.Goals as goal

pub returns : goal.returns
returns c =
    fetched_items _ _ _ _ _ _ _ _ _ c.in-Some.ensures.taken c.put.ensures (c.pieces.ensures ∙ ap (λ (s : AbstractState). s.place.state.pieces) c.deref.ensures) c.fill-result.ensures
