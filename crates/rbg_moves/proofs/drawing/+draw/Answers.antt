use Rattle.rbg_base.proofs.Common.{rules, ◌≡◌, ℕ, ◌+◌, ◌<◌, List, [], ◌∷◌, ◌++◌, length, length_push, sym, ap, ◌∙◌, subst, arith, false, Some}
use Rattle.rbg_base.specs.Move.{most_pairs}
use Rattle.rbg_rules.specs.Meaning.{AbstractGame, IsStateOf, IsSwitchAt}
use Rattle.rbg_search.specs.Start.{IsPositionOf}
use Rattle.rbg_moves.specs.internal.Drawing.{Follows}
use Rattle.rbg_moves.proofs.Drawings.{move_after, move_ended}
use Rattle.rbg_moves.proofs.Steps.{modifier_position, plain_by}
use Rattle.rbg_moves.proofs.drawing.+draw.Goals as goal

pub draw_after-is_switch-requires-clause-position :
    goal.draw_after-is_switch-requires-clause-position
draw_after-is_switch-requires-clause-position g t c =
    let game = c.args.search.now.game in
    subst (λ (x : AbstractGame). IsPositionOf x.rules c.pair.inside.position) (sym c.game-game.ensures.game)
    (subst (λ (q : ℕ × ℕ). IsPositionOf game.rules q.1) (sym c.pair.view_is)
    (modifier_position game c.game-game.ensures.lawful.numbered c.args.pair.1 c.requires.next.valid.modifies))

pub draw_after-returns-then-is_switch-clause-follows :
    goal.draw_after-returns-then-is_switch-clause-follows
draw_after-returns-then-is_switch-clause-follows g t c =
    let pushed : length c.push.new.self.items ≡ length c.args.front.now.items + 1 = ap (λ (ys : List (ℕ × ℕ)). length ys) c.in_ok-push.ensures.items ∙ length_push c.args.front.now.items c.args.pair in
    move_ended c.args.search.now.game c.game-game.result.now c.game-game.ensures.game c.game-game.ensures.lawful.numbered c.args._after c.args.state.now.state c.args.pair c.pair.inside.position
    (ap (λ (q : ℕ × ℕ). q.1) c.pair.view_is) c.args.front.now.items c.push.new.self.items c.in_ok-push.ensures.items c.requires.next (c.is_switch.ensures.0 c.if-is_switch.true)
    (omega (arith, pushed), omega (arith, pushed, c.requires.short))

pub draw_after-draw_on-requires : goal.draw_after-draw_on-requires
draw_after-draw_on-requires g t c κs within =
    let pushed : length c.push.new.self.items ≡ length c.args.front.now.items + 1 = ap (λ (ys : List (ℕ × ℕ)). length ys) c.in_ok-push.ensures.items ∙ length_push c.args.front.now.items c.args.pair in
    let game = c.args.search.now.game in
    let position : IsPositionOf game.rules c.pair-2.inside.position =
    subst (λ (q : ℕ × ℕ). IsPositionOf game.rules q.1) (sym c.pair-2.view_is)
    (modifier_position game c.game-game.ensures.lawful.numbered c.args.pair.1 c.requires.next.valid.modifies) in
    let fits : IsStateOf game c.apply_at.new.state.state = subst (λ (x : AbstractGame). IsStateOf x c.apply_at.new.state.state) c.game-game.ensures.game c.apply_at.ensures.fits in
    let short : length c.push.new.self.items < most_pairs = omega (arith, c.requires.short, pushed, c.len.ensures, c.args.front.now.ok.0, c.if-len-eq-MAX_PAIRS.false) in
    (omega (arith, c.requires.short, pushed, c.decreases), (within, (record { state = fits; last = (position.from_one, position.there) }, short)))

pub draw_after-returns-in-Move-clause-follows : goal.draw_after-returns-in-Move-clause-follows
draw_after-returns-in-Move-clause-follows g t c =
    let game = c.args.search.now.game in
    let plain : ¬ IsSwitchAt game.rules c.args.pair.1 =
    subst (λ (p : ℕ). ¬ IsSwitchAt game.rules p) (ap (λ (q : ℕ × ℕ). q.1) c.pair.view_is)
    (plain_by game c.game-game.result.now c.pair.inside.position c.is_switch.result c.game-game.ensures.game c.is_switch.ensures.1 (search rules)) in
    move_after game c.game-game.result.now c.game-game.ensures.game c.game-game.ensures.lawful.numbered c.args._after c.args.state.now.state c.args.pair c.pair-2.inside.position
    (ap (λ (q : ℕ × ℕ). q.1) c.pair-2.view_is) c.apply_at.new.state.state c.args.front.now.items c.push.new.self.items c.draw_on.new.front.items c.in_ok-push.ensures.items c.requires.next plain c.apply_at.ensures.applied
    (subst (Follows game (Some c.pair-2.inside.position) c.apply_at.new.state c.draw_on.new.state c.push.new.self.items c.draw_on.new.front.items) c.in-Move.is c.in_ok-draw_on.ensures.follows)
