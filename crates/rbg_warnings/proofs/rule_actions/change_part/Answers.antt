-- What ends it is found, or there is none.
use Rattle.rbg_warnings.specs.Actions.IsPart.{change, open_change}
use Rattle.rbg_warnings.proofs.Parts.{told}
use Rattle.rbg_warnings.proofs.rule_actions.change_part.Goals as goal

pub returns-in-Some : goal.returns-in-Some
returns-in-Some c t is = told t _ _ _ _ c.action.ensures.is_action c.action.ensures.further (change is c.in-Some.ensures.found)

pub returns-in-None : goal.returns-in-None
returns-in-None c t is = told t _ _ _ _ c.action-in-None.ensures.is_action c.action-in-None.ensures.further (open_change is c.in-None.ensures.none)
