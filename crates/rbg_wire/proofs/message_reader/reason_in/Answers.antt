-- The five numbers of reasons.
use Rattle.std.proofs.Common.{arith}
use Rattle.rbg_wire.proofs.MessageLemmas.{same_reason, reason_number-small}
use Rattle.rbg_wire.proofs.message_reader.reason_in.Goals as goal

pub returns-in_default-clause-none : goal.returns-in_default-clause-none
returns-in_default-clause-none c reason spelled =
    let others = c.in_default in
    let found = c.in_ok-number_of_decimal.ensures.found in
    let small = reason_number-small reason in
    let same = same_reason _ _ reason found.0 found.1 spelled in
    absurd (omega (arith, same, small.0, small.1))
