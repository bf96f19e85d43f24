-- An outcome's text begins with its letter.
use Rattle.rbg_wire.proofs.OutcomeLemmas.{letter_of_outcome}
use Rattle.rbg_wire.proofs.outcome_reader.outcome_in.Goals as goal

pub returns-in_err-after_byte-clause-none : goal.returns-in_err-after_byte-clause-none
returns-in_err-after_byte-clause-none c = rw c.from_residual.ensures (letter_of_outcome _ c.in_err-after_byte.ensures.none)
