-- The keeper's first moves have led to the only place.
use Rattle.std.proofs.Common.{ap, ◌∙◌}
use Rattle.rbg_rules.specs.Meaning.{AbstractGame}
use Rattle.rbg_moves.specs.Starting.{start_place}
use Rattle.rbg_c.specs.States.{beginning_at}
use Rattle.rbg_c.proofs.Places.{first_state, first_is}
use Rattle.rbg_c.proofs.state.State.open.Goals as goal

pub invariant_of-result : goal.invariant_of-result
invariant_of-result c =
    first_state _ _ _ _ _ _ c.in_ok-game-2.ensures c.in_ok-origin.ensures c.in_ok-start.ensures.start c.in_ok-start.ensures.in_game c.new.ensures.items c.in_ok-place.ensures.place c.in_ok-place.ensures.reached.here

pub returns-clause-game : goal.returns-clause-game
returns-clause-game c =
    first_is _ _ _ _ _ _ c.in_ok-game-2.ensures c.in_ok-origin.ensures c.in_ok-start.ensures.start c.new.ensures.items
    ∙ ap (λ (g : AbstractGame). beginning_at g (start_place g) c.in_ok-place.place) c.in_ok-game.ensures
