use Rattle.std.proofs.Common.{◌*◌, ◌-◌, ◌+◌, length}
use Rattle.rbg_base.specs.Move.{most_pairs}
use Rattle.rbg_moves.proofs.drawing.+draw.Given as goal

abbrev pub decreases-draw_after : goal.decreases-draw_after
decreases-draw_after g l = 2 * (most_pairs - length l.front.now.items)

abbrev pub decreases-draw_on : goal.decreases-draw_on
decreases-draw_on g l = 2 * (most_pairs - length l.front.now.items) + 1
