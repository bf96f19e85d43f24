-- One number is before the first space, and the other after it.
use Rattle.rbg_wire.proofs.FieldLemmas.{same_fields, with_rest}
use Rattle.rbg_wire.proofs.MessageLemmas.{no_limits, spells_limits}
use Rattle.rbg_wire.proofs.message_reader.limits_in.Goals as goal

pub returns-in_err-turn_ms : goal.returns-in_err-turn_ms
returns-in_err-turn_ms c =
    rw c.from_residual.ensures (no_limits _ (λ turn refusals h. c.in_err-turn_ms.ensures.none turn _ (record { small = h.has.0; parts = h.is })))

pub returns-in_err-refusals : goal.returns-in_err-refusals
returns-in_err-refusals c =
    let found = c.in_ok-turn_ms.ensures.found in
    rw c.from_residual-in_err-refusals.ensures (no_limits _ (λ turn refusals h.
    c.in_err-refusals.ensures.none refusals h.has.1 (same_fields _ _ _ _ turn found.small h.has.0 found.parts h.is).1))

pub returns : goal.returns
returns c =
    let turn = c.in_ok-turn_ms.ensures.found in
    let refusals = c.in_ok-refusals.ensures.found in
    (spells_limits _ _ _ (record { has = (turn.small, refusals.0); is = with_rest _ _ _ _ turn refusals.1 }), tt)
