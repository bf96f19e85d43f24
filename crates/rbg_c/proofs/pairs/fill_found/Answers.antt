-- The pairs of the move are put into the buffer, if there is room.
use Rattle.rbg_c.specs.Filling.{told}
use Rattle.rbg_c.proofs.pairs.fill_found.Goals as goal

pub returns : goal.returns
returns c = told (record { moves = _; found = c.in-Some.ensures.0; there = c.get.ensures.pairs }) c.fill_pairs.ensures
