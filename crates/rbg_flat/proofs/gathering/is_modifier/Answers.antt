use Rattle.std.proofs.Common.{◌≡◌, true, false}
use Rattle.rbg_flat.proofs.ModifierLemmas.{modifier_kind}
use Rattle.rbg_flat.proofs.gathering.is_modifier.Goals as goal

false_not_true : false ≡ true → ⊥
false_not_true e = cc

pub returns-in_default : goal.returns-in_default
returns-in_default c = (λ e. absurd (false_not_true e), λ modifier. absurd (c.in_default.not-Modifier (modifier_kind c.args.game.now.rules c.requires.lawful.numbered c.args.position c.facts.result.now.kind c.facts.ensures.shown.kind modifier)))
