use Rattle.rbg_base.proofs.Common.{◌≤◌, ◌<◌, ℕ, length, sym, ap, subst, ◌∙◌, arith, Some, slice_get-get_or}
use Rattle.rbg_rules.specs.Meaning.{AbstractGame, IsStart, after, IsNumbered, positions_of}
use Rattle.rbg_shifts.specs.Origin.{start_of}
use Rattle.rbg_shifts.specs.declared.origin.Origin.{Origin}
use Rattle.rbg_shifts.proofs.ShiftLemmas.{action_within}
use Rattle.rbg_flat.proofs.Common.{AreFollowers}
use Rattle.rbg_flat.proofs.followers.StepTable.at.Goals as goal

after_below : (game : AbstractGame) → IsNumbered game.rules → (p : ℕ) → IsStart game.rules (after p) → p ≤ length (positions_of game.rules)
after_below game numbered p stands = (action_within game.rules numbered p stands.0 stands.1).1

pub index-requires : goal.index-requires
index-requires c =
    let below = after_below c.args.game.now c.is_accepted.ensures.numbered c.in-After.position (subst (λ (o : Origin). IsStart c.args.game.now.rules (start_of o)) c.in-After.is c.requires.stands) in
    let all = c.requires.steps.all_afters in
    omega (arith, below, all)

pub returns-in-After : goal.returns-in-After
returns-in-After c =
    let small = after_below c.args.game.now c.is_accepted.ensures.numbered c.in-After.position (subst (λ (o : Origin). IsStart c.args.game.now.rules (start_of o)) c.in-After.is c.requires.stands) in
    let all = c.requires.steps.all_afters in
    let below : c.in-After.position < length c.args.self.now.afters.items = omega (arith, small, all) in
    subst (λ (o : Origin). AreFollowers c.args.game.now (start_of o) c.index.result.now) (sym c.in-After.is) (c.requires.steps.told_after c.in-After.position c.index.result.now (slice_get-get_or _ _ _ below ∙ ap Some (sym c.index.ensures)))

pub begin-requires-clause-stands : goal.begin-requires-clause-stands
begin-requires-clause-stands c = subst (λ (o : Origin). IsStart c.args.game.now.rules (start_of o)) c.in-Begin.is c.requires.stands

pub returns-in-Begin : goal.returns-in-Begin
returns-in-Begin c = subst (λ (o : Origin). AreFollowers c.args.game.now (start_of o) c.begin.result.now) (sym c.in-Begin.is) c.begin.ensures
