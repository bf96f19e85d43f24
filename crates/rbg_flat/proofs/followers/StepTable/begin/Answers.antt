use Rattle.rbg_base.proofs.Common.{◌≤◌, ◌<◌, ℕ, length, inl, inr, sym, ap, subst, ◌∙◌, arith, Some, slice_get-get_or}
use Rattle.rbg_rules.specs.Meaning.{AbstractGame, IsStart, beginning, inside, IsNumbered, positions_of, positive, negative}
use Rattle.rbg_auto.specs.Steps.{level_of}
use Rattle.rbg_auto.specs.declared.steps.Expr.{Expr}
use Rattle.rbg_shifts.proofs.ShiftLemmas.{action_within}
use Rattle.rbg_flat.proofs.Common.{AreFollowers}
use Rattle.rbg_flat.proofs.followers.StepTable.begin.Goals as goal

inside_below : (game : AbstractGame) → IsNumbered game.rules → (p : ℕ) → IsStart game.rules (beginning (inside p)) → p ≤ length (positions_of game.rules)
inside_below game numbered p (x, inl stands) = (action_within game.rules numbered p (positive x) stands).1
inside_below game numbered p (x, inr stands) = (action_within game.rules numbered p (negative x) stands).1

pub index-requires : goal.index-requires
index-requires c =
    let below = inside_below c.args.game.now c.is_accepted.ensures.numbered c.in-Inside.position (subst (λ (e : Expr). IsStart c.args.game.now.rules (beginning (level_of e))) c.in-Inside.is c.requires.stands) in
    let all = c.requires.steps.all_insides in
    omega (arith, below, all)

pub returns-in-Inside : goal.returns-in-Inside
returns-in-Inside c =
    let small = inside_below c.args.game.now c.is_accepted.ensures.numbered c.in-Inside.position (subst (λ (e : Expr). IsStart c.args.game.now.rules (beginning (level_of e))) c.in-Inside.is c.requires.stands) in
    let all = c.requires.steps.all_insides in
    let below : c.in-Inside.position < length c.args.self.now.insides.items = omega (arith, small, all) in
    subst (λ (e : Expr). AreFollowers c.args.game.now (beginning (level_of e)) c.index.result.now) (sym c.in-Inside.is) (c.requires.steps.told_inside c.in-Inside.position c.index.result.now (slice_get-get_or _ _ _ below ∙ ap Some (sym c.index.ensures)))
