use Rattle.std.proofs.Common.{ℕ, sym, subst}
use Rattle.rbg_rules.specs.Meaning.{IsModifierAt}
use Rattle.rbg_search.proofs.Asking.{no_modifier}
use Rattle.rbg_moves.proofs.Steps.{modifier_position}
use Rattle.rbg_moves.proofs.stepping.apply_at.Goals as goal

pub apply-applied-requires-clause-from_one : goal.apply-applied-requires-clause-from_one
apply-applied-requires-clause-from_one c =
    let game = c.args.game.now in
    let modifier : IsModifierAt game.rules c.pair.inside.position = subst (λ (q : ℕ × ℕ). IsModifierAt game.rules q.1) (sym c.pair.view_is) c.requires.valid.modifies in
    (modifier_position game c.requires.lawful.numbered c.pair.inside.position modifier).from_one

pub apply-applied-requires-clause-there : goal.apply-applied-requires-clause-there
apply-applied-requires-clause-there c =
    let game = c.args.game.now in
    let modifier : IsModifierAt game.rules c.pair.inside.position = subst (λ (q : ℕ × ℕ). IsModifierAt game.rules q.1) (sym c.pair.view_is) c.requires.valid.modifies in
    (modifier_position game c.requires.lawful.numbered c.pair.inside.position modifier).there

pub apply-applied-requires-clause-no_pattern : goal.apply-applied-requires-clause-no_pattern
apply-applied-requires-clause-no_pattern c =
    let game = c.args.game.now in
    let modifier : IsModifierAt game.rules c.pair.inside.position = subst (λ (q : ℕ × ℕ). IsModifierAt game.rules q.1) (sym c.pair.view_is) c.requires.valid.modifies in
    λ pattern. no_modifier game.rules c.requires.lawful.numbered c.pair.inside.position pattern modifier
