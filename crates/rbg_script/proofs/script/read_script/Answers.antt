-- A text is that of one script at most, and a text with a line that is not of its form is that of none.
use Rattle.rbg_script.proofs.ScriptLemmas.{script_only}
use Rattle.rbg_script.proofs.script.read_script.Goals as goal

pub returns-clause-only : goal.returns-clause-only
returns-clause-only c = script_only _ _ c.script_in.ensures.found c.script_in.ensures.line
