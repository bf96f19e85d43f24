-- A token follows, or none does.
use Rattle.std.proofs.Common.{arith}
use Rattle.rbg_warnings.specs.Actions.IsPart.{to_player, to_nobody}
use Rattle.rbg_warnings.proofs.Parts.{told}
use Rattle.rbg_warnings.proofs.rule_actions.player_part.Goals as goal

pub returns-in-empty : goal.returns-in-empty
returns-in-empty c t is = to_nobody is (omega (arith, c.in-empty.len_below))

pub returns-in-len1-up : goal.returns-in-len1-up
returns-in-len1-up c t is = told t _ _ _ _ c.action.ensures.is_action c.action.ensures.further (to_player is c.in-len1-up.len_at_least)
