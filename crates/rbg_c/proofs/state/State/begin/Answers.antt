-- The state stands where the rules begin.
use Rattle.std.proofs.Common.{ap, ◌∙◌}
use Rattle.rbg_rules.specs.Meaning.{AbstractGame}
use Rattle.rbg_moves.specs.Starting.{start_place}
use Rattle.rbg_c.specs.States.{beginning_at}
use Rattle.rbg_c.proofs.Places.{begun_state, begun_is}
use Rattle.rbg_c.proofs.state.State.begin.Goals as goal

pub invariant_of-result : goal.invariant_of-result
invariant_of-result c =
    begun_state _ _ _ _ _ _ c.in_ok-game-2.ensures c.in_ok-origin.ensures c.in_ok-start.ensures.start c.new.ensures.items c.in_ok-place.ensures.start c.in_ok-place.ensures.in_game

pub returns : goal.returns
returns c =
    begun_is _ _ _ _ _ _ c.in_ok-game-2.ensures c.in_ok-origin.ensures c.in_ok-start.ensures.start c.new.ensures.items c.in_ok-place.ensures.start
    ∙ ap (λ (g : AbstractGame). beginning_at g (start_place g) (start_place g)) c.in_ok-game.ensures
