use Rattle.std.proofs.Common.{sym, ◌∙◌}
use Rattle.rbg_search.proofs.Answering.{pattern_valid}
use Rattle.rbg_search.proofs.answer.is_valid.Goals as goal

pub returns-then-is_negative : goal.returns-then-is_negative
returns-then-is_negative c = λ s decides.
    (pattern_valid c.args.game.now c.requires.lawful.numbered c.args.position c.requires.there s c.args.runs decides c.action.result.now c.action.ensures).0 (sym c.is_negative.ensures ∙ c.if-is_negative.true)

pub returns-else-is_negative : goal.returns-else-is_negative
returns-else-is_negative c = λ s decides.
    (pattern_valid c.args.game.now c.requires.lawful.numbered c.args.position c.requires.there s c.args.runs decides c.action.result.now c.action.ensures).1 (sym c.is_negative.ensures ∙ c.if-is_negative.false)
