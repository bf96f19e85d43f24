-- The moves are put into the buffer, or there was no memory.
use Rattle.std.proofs.Common.{◌≡◌, ℕ, List, sym, ◌∙◌}
use Rattle.std.specs.Prelude.{Option, None, Some}
use Rattle.rbg_c.proofs.Listed.{fills_found}
use Rattle.rbg_c.proofs.listing.fill_moves.Goals as goal

pub returns-in-Ok : goal.returns-in-Ok
returns-in-Ok c = λ moves asked. fills_found _ _ moves _ _ _ _ _ _ c.in-Some.ensures.0 c.as_slice.ensures.value c.in-Ok.ensures c.fill.ensures asked
