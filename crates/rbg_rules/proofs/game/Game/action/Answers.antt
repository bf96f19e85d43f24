-- The proof of `game::Game::action`.
use Rattle.std.proofs.Common.{subst, sym, ap}
use Rattle.rbg_rules.specs.Expression.{Expression}
use Rattle.rbg_rules.specs.State.{AbstractGame}
use Rattle.rbg_rules.specs.Table.{IsActionAt}
use Rattle.rbg_rules.specs.Translation.{rules_of}
use Rattle.rbg_rules.proofs.TableLemmas.{of_seen, stands_at}
use Rattle.rbg_rules.proofs.game.Game.action.Goals as goal

pub returns : goal.returns
returns c =
    let rules = c.self.inside.parts.rules in
    of_seen (λ (x : Expression). IsActionAt x c.args.position c.index.result.now) (ap (λ (g : AbstractGame). g.rules) c.self.view_is) c.requires.there
    (λ there. subst (IsActionAt (rules_of rules) c.args.position) (sym c.index.ensures)
    (stands_at rules.actions.items rules.tree c.self.invariant.lawful.numbered c.self.invariant.actions c.args.position c.index.result.now c.requires.from_one there))
