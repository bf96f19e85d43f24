-- Each letter has its own fields.
use Rattle.std.proofs.Common.{arith}
use Rattle.rbg_wire.proofs.MessageLemmas.{no_refusal, no_end, no_join, no_letter, spells_refusal, spells_end, spells_join}
use Rattle.rbg_wire.proofs.message_reader.other_message.Goals as goal

pub returns-in_err-reason_in-in-82 : goal.returns-in_err-reason_in-in-82
returns-in_err-reason_in-in-82 c =
    rw (c.from_residual.ensures, c.in-82.is) (no_refusal _ c.in_err-reason_in-in-82.ensures.none)

pub returns-in_err-outcome_after_letter-in-69 : goal.returns-in_err-outcome_after_letter-in-69
returns-in_err-outcome_after_letter-in-69 c =
    rw (c.from_residual-in_err-outcome_after_letter-in-69.ensures, c.in-69.is) (no_end _ c.in_err-outcome_after_letter-in-69.ensures.none)

pub returns-in_ok-reason_in-in-82 : goal.returns-in_ok-reason_in-in-82
returns-in_ok-reason_in-in-82 c = rw c.in-82.is (spells_refusal _ _ c.in_ok-reason_in-in-82.ensures.found, tt)

pub returns-in_ok-outcome_after_letter-in-69 : goal.returns-in_ok-outcome_after_letter-in-69
returns-in_ok-outcome_after_letter-in-69 c = rw c.in-69.is (spells_end _ _ c.in_ok-outcome_after_letter-in-69.ensures.found, tt)

pub returns-in_default : goal.returns-in_default
returns-in_default c =
    let others = c.in_default in
    no_letter _ _ (λ e. absurd (omega arith)) (λ e. absurd (omega arith)) (λ e. absurd (omega arith)) (λ e. absurd (omega arith)) (λ e. absurd (omega arith)) (λ e. absurd (omega arith)) (λ e. absurd (omega arith))

pub returns-in_err-number_of_decimal-in-72 : goal.returns-in_err-number_of_decimal-in-72
returns-in_err-number_of_decimal-in-72 c =
    rw (c.from_residual-in_err-number_of_decimal-in-72.ensures, c.in-72.is) (no_join _ c.in_err-number_of_decimal-in-72.ensures.none)

pub returns-in_ok-number_of_decimal-in-72 : goal.returns-in_ok-number_of_decimal-in-72
returns-in_ok-number_of_decimal-in-72 c = rw c.in-72.is (spells_join _ _ c.in_ok-number_of_decimal-in-72.ensures.found, tt)
