-- Its moves count from the place.
use Rattle.std.proofs.Common.{subst, sym}
use Rattle.rbg_rules.specs.Meaning.{IsPlaceOf}
use Rattle.rbg_c.specs.States.{AbstractState}
use Rattle.rbg_c.proofs.Places.{unpacked_state, unpacked_is}
use Rattle.rbg_c.proofs.state.State.at.Goals as goal

pub invariant_of-result : goal.invariant_of-result
invariant_of-result c =
    unpacked_state _ _ _ _ _ _ c.in_ok-game.ensures c.in_ok-origin.ensures c.in_ok-try_clone.ensures c.new.ensures.items
    (subst (λ (s : AbstractState). IsPlaceOf s.game c.args.place) (sym c.self.view_is) c.requires)

pub returns : goal.returns
returns c = rw (← c.self.view_is) (unpacked_is _ _ _ _ _ _ c.in_ok-game.ensures c.in_ok-origin.ensures c.in_ok-try_clone.ensures c.new.ensures.items)
