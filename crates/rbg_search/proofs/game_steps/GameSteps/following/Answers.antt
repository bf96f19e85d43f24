use Rattle.rbg_rules.specs.Meaning.{beginning, after}
use Rattle.rbg_auto.specs.Steps.{level_of}
use Rattle.rbg_search.proofs.Parts.{followers_within}
use Rattle.rbg_search.proofs.game_steps.GameSteps.following.Goals as goal

pub returns-in-Begin-clause-within : goal.returns-in-Begin-clause-within
returns-in-Begin-clause-within g c =
    rw (← c.self.view_is) (followers_within c.self.inside.game.now.rules c.self.invariant.1.numbered (beginning (level_of c.in-Begin.expr)) c.first.result.now (c.first.ensures c.self.inside.game.now.rules c.self.invariant.0))

pub returns-in-After-clause-within : goal.returns-in-After-clause-within
returns-in-After-clause-within g c =
    rw (← c.self.view_is) (followers_within c.self.inside.game.now.rules c.self.invariant.1.numbered (after c.in-After.position) c.next.result.now (c.next.ensures c.self.inside.game.now.rules c.self.invariant.0))
