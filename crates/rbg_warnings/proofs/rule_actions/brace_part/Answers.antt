-- A mark follows, or the end is found, or there is none.
use Rattle.rbg_warnings.specs.Actions.IsPart.{pattern, braces, open_braces}
use Rattle.rbg_warnings.proofs.Parts.{told}
use Rattle.rbg_warnings.proofs.rule_actions.brace_part.Goals as goal

pub returns-then-begins_pattern : goal.returns-then-begins_pattern
returns-then-begins_pattern c t is = told t _ _ _ _ c.action.ensures.is_action c.action.ensures.further (pattern is (rw c.begins_pattern.ensures at c.if-begins_pattern.true))

pub returns-in-Some : goal.returns-in-Some
returns-in-Some c t is = told t _ _ _ _ c.action-in-Some.ensures.is_action c.action-in-Some.ensures.further (braces is (rw c.begins_pattern.ensures at c.if-begins_pattern.false) c.in-Some.ensures.found)

pub returns-in-None : goal.returns-in-None
returns-in-None c t is = told t _ _ _ _ c.action-in-None.ensures.is_action c.action-in-None.ensures.further (open_braces is (rw c.begins_pattern.ensures at c.if-begins_pattern.false) c.in-None.ensures.none)
