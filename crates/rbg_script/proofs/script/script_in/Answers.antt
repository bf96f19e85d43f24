-- The first line is the config's, and the others are the events'.
use Rattle.rbg_script.proofs.Apart.{no_config_here}
use Rattle.rbg_base.proofs.Errors.{passed_on}
use Rattle.rbg_script.proofs.ScriptLemmas.{bad_config, bad_event, spells_script}
use Rattle.rbg_script.proofs.script.script_in.Goals as goal

pub returns-in_default-clause-line : goal.returns-in_default-clause-line
returns-in_default-clause-line c = bad_config _ _ _ c.first_line.ensures (no_config_here _ _ c.in_default.is c.read_config.ensures.only)

pub returns-in_err-events-clause-line : goal.returns-in_err-events-clause-line
returns-in_err-events-clause-line c =
    passed_on c.from_residual.result c.in_err-events.field-0.0 _ c.from_residual.ensures.1 (bad_event _ _ _ _ _ c.first_line.ensures c.in-Some.ensures.found c.in_err-events.ensures.line)

pub returns-clause-found : goal.returns-clause-found
returns-clause-found c = spells_script _ _ _ _ _ c.first_line.ensures c.in-Some.ensures.found c.in_ok-events.ensures.found
