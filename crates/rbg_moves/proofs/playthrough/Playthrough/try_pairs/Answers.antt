use Rattle.std.proofs.Common.{subst, IfNone}
use Rattle.rbg_rules.specs.Meaning.{AbstractPlace, Legal}
use Rattle.rbg_moves.proofs.playthrough.Playthrough.try_pairs.Goals as goal

-- No place is reached by the pairs, so they are no legal move.
pub returns-in-None-clause-illegal : goal.returns-in-None-clause-illegal
returns-in-None-clause-illegal c _ =
    rw (← c.self.view_is)
    (subst
    (λ place. IfNone place ((to : AbstractPlace) → Legal c.self.inside.game.now c.self.inside.place c.args.pairs.now to → ⊥))
    c.in-None.is c.in_ok-place.ensures.tries.illegal)
