-- Two numbers follow the word, with a space after each.
use Rattle.std.proofs.Common.{◌∙◌}
use Rattle.rbg_script.proofs.Parts.{fields_shape, after_word, beyond_first, has_fields}
use Rattle.rbg_script.proofs.fields.fields_in.Goals as goal

pub returns-in_err-fields-clause-none : goal.returns-in_err-fields-clause-none
returns-in_err-fields-clause-none c = rw c.from_residual.ensures (λ seat at rest h. c.in_err-fields.ensures.none _ (h.is ∙ fields_shape _ seat at rest))

pub returns-in_err-seat-clause-none : goal.returns-in_err-seat-clause-none
returns-in_err-seat-clause-none c =
    rw c.from_residual-in_err-seat.ensures (λ seat at rest h. c.in_err-seat.ensures.none seat _ (record { small = h.numbers.0; parts = after_word _ _ _ seat at rest c.in_ok-fields.ensures.found h }))

pub returns-in_err-at-clause-none : goal.returns-in_err-at-clause-none
returns-in_err-at-clause-none c =
    let first = c.in_ok-seat.ensures.found in
    rw c.from_residual-in_err-at.ensures (λ seat at rest h.
    c.in_err-at.ensures.none at rest (record {
      small = h.numbers.1;
      parts = beyond_first _ _ _ _ seat first h.numbers.0 (after_word _ _ _ seat at rest c.in_ok-fields.ensures.found h);
    }))

pub returns-clause-found : goal.returns-clause-found
returns-clause-found c =
    let first = c.in_ok-seat.ensures.found in
    let second = c.in_ok-at.ensures.found in
    has_fields _ _ _ _ _ _ _ c.in_ok-fields.ensures.found first second
