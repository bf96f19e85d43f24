use Rattle.rbg_base.proofs.Common.{◌≡◌, ℕ, ◌+◌, ◌*◌, List, subst, ◌↔◌, bit_at}
use Rattle.rbg_rules.specs.Meaning.{HasAction, on, IsActionAt}
use Rattle.rbg_rules.specs.declared.rule.Action.{Action}
use Rattle.rbg_flat.specs.internal.Passing.{IsOneOf}
use Rattle.rbg_flat.proofs.ModifierLemmas.{other_never}
use Rattle.rbg_flat.proofs.ToTry.{on_told}
use Rattle.rbg_flat.proofs.passing.on_to_try.Goals as goal

pub returns-in-On : goal.returns-in-On
returns-in-On c = λ b small.
    let s = c.args.state.now.state in
    let here = c.args.column * 64 + b in
    let stands : HasAction c.args.game.now.rules c.args.position (on c.in-On.pieces.items) = subst (λ (a : Action). IsActionAt c.args.game.now.rules c.args.position a) c.in-On.is c.action.ensures in
    let told : (bit_at c.any_standing.result b ≡ 1) ↔ IsOneOf c.in-On.pieces.items s.pieces here = subst (λ (xs : List ℕ). (bit_at c.any_standing.result b ≡ 1) ↔ IsOneOf xs s.pieces here) c.deref.ensures.value (c.any_standing.ensures b small) in
    on_told c.args.game.now c.requires.lawful.numbered s c.args.position c.in-On.pieces.items stands here (bit_at c.any_standing.result b ≡ 1) told

pub returns-in_default : goal.returns-in_default
returns-in_default c = absurd (other_never c.args.game.now.rules c.requires.lawful.numbered c.args.position c.action.result.now c.action.ensures (λ pieces is. c.in_default.not-On pieces is) c.requires.stands.0 c.requires.stands.1)
