-- The bytes begin with the text, or no bytes follow it that are these.
use Rattle.rbg_wire.proofs.ByteLemmas.{prefix_found, prefix_none}
use Rattle.rbg_wire.proofs.bytes.after_text.Goals as goal

pub returns-in_err-rest-clause-none : goal.returns-in_err-rest-clause-none
returns-in_err-rest-clause-none c = rw c.from_residual.ensures (prefix_none _ _ c.in_err-rest.ensures.cases)

pub returns-clause-found : goal.returns-clause-found
returns-clause-found c = prefix_found _ _ _ c.in_ok-rest.ensures.cases.0 c.in_ok-rest.ensures.cases.1
