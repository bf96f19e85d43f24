-- The proof of `game::Game::is_pattern`.
use Rattle.std.proofs.Common.{subst, sym, ap, IsTrue, ◌↔◌}
use Rattle.rbg_rules.specs.Expression.{Expression}
use Rattle.rbg_rules.specs.Positions.{IsPatternAt}
use Rattle.rbg_rules.specs.State.{AbstractGame}
use Rattle.rbg_rules.specs.Translation.{rules_of, shows_pattern}
use Rattle.rbg_rules.specs.declared.rule.Action.{Action}
use Rattle.rbg_rules.proofs.TableLemmas.{of_seen, pattern_at}
use Rattle.rbg_rules.proofs.game.Game.is_pattern.Goals as goal

pub returns : goal.returns
returns c =
    let rules = c.self.inside.parts.rules in
    rw c.is_pattern.ensures (of_seen (λ (x : Expression). IsTrue (shows_pattern c.index.result.now) ↔ IsPatternAt x c.args.position) (ap (λ (g : AbstractGame). g.rules) c.self.view_is) c.requires.there
    (λ there. subst (λ (i : Action). IsTrue (shows_pattern i) ↔ IsPatternAt (rules_of rules) c.args.position) (sym c.index.ensures)
    (pattern_at rules.actions.items rules.tree c.self.invariant.lawful.numbered c.self.invariant.actions c.args.position c.index.result.now c.requires.from_one there)))
