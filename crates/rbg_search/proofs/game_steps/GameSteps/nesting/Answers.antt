use Rattle.rbg_search.proofs.Nesting.{nests_anywhere}
use Rattle.rbg_search.proofs.game_steps.GameSteps.nesting.Goals as goal

pub returns-clause-nests : goal.returns-clause-nests
returns-clause-nests g c = rw (← c.self.view_is) (λ f. nests_anywhere _ c.self.inside.game.now.rules c.self.invariant.1.limits.nesting f)
