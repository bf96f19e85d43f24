-- Two numbers follow the word, the first before the first space.
use Rattle.std.proofs.Common.{◌∙◌}
use Rattle.rbg_script.proofs.Parts.{end_shape, end_fields, beyond_first, spells_end}
use Rattle.rbg_script.proofs.event_reader.end_in.Goals as goal

pub returns-in_err-fields-clause-none : goal.returns-in_err-fields-clause-none
returns-in_err-fields-clause-none c = rw c.from_residual.ensures (λ seat at numbers is. c.in_err-fields.ensures.none _ (is ∙ end_shape seat at))

pub returns-in_err-seat-clause-none : goal.returns-in_err-seat-clause-none
returns-in_err-seat-clause-none c =
    rw c.from_residual-in_err-seat.ensures (λ seat at numbers is. c.in_err-seat.ensures.none seat _ (record { small = numbers.0; parts = end_fields _ _ seat at c.in_ok-fields.ensures.found is }))

pub returns-in_err-at-clause-none : goal.returns-in_err-at-clause-none
returns-in_err-at-clause-none c =
    let first = c.in_ok-seat.ensures.found in
    rw c.from_residual-in_err-at.ensures (λ seat at numbers is.
    c.in_err-at.ensures.none at numbers.1 (beyond_first _ _ _ _ seat first numbers.0 (end_fields _ _ seat at c.in_ok-fields.ensures.found is)))

pub returns-clause-found : goal.returns-clause-found
returns-clause-found c =
    let first = c.in_ok-seat.ensures.found in
    let last = c.in_ok-at.ensures.found in
    spells_end _ _ _ _ _ first last.0 c.in_ok-fields.ensures.found last.1
