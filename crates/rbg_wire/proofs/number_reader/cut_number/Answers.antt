-- The digits are before the first space.
use Rattle.rbg_wire.proofs.FieldLemmas.{no_fields, cut_fields}
use Rattle.rbg_wire.proofs.number_reader.cut_number.Goals as goal

pub returns-in_err-digits-clause-none : goal.returns-in_err-digits-clause-none
returns-in_err-digits-clause-none c = rw c.from_residual.ensures (λ n rest h. no_fields _ rest n c.in_err-digits.ensures.none h.parts)

pub returns-in_err-number-clause-none : goal.returns-in_err-number-clause-none
returns-in_err-number-clause-none c =
    let cut = c.in_ok-digits.ensures.found in
    rw c.from_residual-in_err-number.ensures (λ n rest h. c.in_err-number.ensures.none n h.small (cut_fields _ _ _ cut.0 cut.1 n rest h.small h.parts).0)
