-- How the match ended, or how it can continue.
use Rattle.rbg_base.proofs.Common.{◌∙◌, sym, on_ok_weaker}
use Rattle.rbg_operations.specs.Lines.{end_text}
use Rattle.rbg_operations.specs.Openings.GoesOn.{ended}
use Rattle.rbg_operations.proofs.opened.write_rest.Goals as goal

pub returns-in-Some : goal.returns-in-Some
returns-in-Some c =
    on_ok_weaker c.write_end.result (λ is. (end_text c.in-Some.outcome, ended c.in-Some.outcome (sym c.outcome.ensures ∙ c.in-Some.is), is)) c.write_end.ensures

pub returns-in-None : goal.returns-in-None
returns-in-None c = on_ok_weaker c.write_legal.result (λ is. is (sym c.outcome.ensures ∙ c.in-None.is)) c.write_legal.ensures
