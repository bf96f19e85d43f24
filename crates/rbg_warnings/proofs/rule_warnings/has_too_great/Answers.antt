-- The action at the position is the only one.
use Rattle.rbg_warnings.proofs.ActionsAt.{too_great}
use Rattle.rbg_warnings.proofs.rule_warnings.has_too_great.Goals as goal

pub returns : goal.returns
returns c = too_great c.args.game.now c.is_accepted.ensures.numbered _ _ _ c.action.ensures c.assigns_too_much.ensures
