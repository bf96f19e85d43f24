use Rattle.std.proofs.Common.{length}
use Rattle.rbg_moves.proofs.trying.+follow.Given as goal

abbrev pub decreases-follow : goal.decreases-follow
decreases-follow g l = length l.pairs.now
