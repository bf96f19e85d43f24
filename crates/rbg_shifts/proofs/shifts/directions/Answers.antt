use Rattle.rbg_shifts.proofs.ShiftLemmas.{no_directions, one_direction}
use Rattle.rbg_shifts.proofs.shifts.directions.Goals as goal

pub loop-index-init : goal.loop-index-init
loop-index-init c = rw (c.in_ok-push.ensures.items, c.in_ok-directions.ensures.items) (no_directions c.args.game.now.rules c.positions-positions.ensures.lawful.numbered)

pub loop-index-preserved : goal.loop-index-preserved
loop-index-preserved c = rw c.in_ok-push-2.ensures.items (one_direction c.args.game.now.rules c.positions-positions.ensures.lawful.numbered c.loop-index.index c.loop-index.directions.items c.action.result.now c.direction_of.result c.loop-index.invariant c.action.ensures c.direction_of.ensures.only c.direction_of.ensures.all)
