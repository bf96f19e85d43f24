-- A line tells at most one entry with a moment.
use Rattle.rbg_view.proofs.Lines.{no_timed_end, timed_end_found}
use Rattle.rbg_view.proofs.line.timed_end.Goals as goal

pub returns-in_err-timed-clause-none : goal.returns-in_err-timed-clause-none
returns-in_err-timed-clause-none c = rw c.from_residual.ensures (λ end at h. let told = c.in_err-timed.ensures.only _ h in cc)

pub returns-clause-found : goal.returns-clause-found
returns-clause-found c = timed_end_found _ _ _ c.in_ok-timed.ensures.found c.end_of.ensures.found

pub returns-clause-none : goal.returns-clause-none
returns-clause-none c = no_timed_end _ _ _ c.in_ok-timed.ensures.only c.end_of.ensures.none
