-- The moment follows the word.
use Rattle.std.proofs.Common.{◌∙◌}
use Rattle.rbg_script.proofs.Parts.{tick_shape, tick_field, spells_tick}
use Rattle.rbg_script.proofs.event_reader.tick_in.Goals as goal

pub returns-in_err-at-clause-none : goal.returns-in_err-at-clause-none
returns-in_err-at-clause-none c = rw c.from_residual.ensures (λ at small is. c.in_err-at.ensures.none _ (is ∙ tick_shape at))

pub returns-in_err-at-2-clause-none : goal.returns-in_err-at-2-clause-none
returns-in_err-at-2-clause-none c =
    rw c.from_residual-in_err-at-2.ensures (λ at small is. c.in_err-at-2.ensures.none at small (tick_field _ _ at c.in_ok-at.ensures.found is))

pub returns-clause-found : goal.returns-clause-found
returns-clause-found c = let last = c.in_ok-at-2.ensures.found in spells_tick _ _ _ last.0 c.in_ok-at.ensures.found last.1
