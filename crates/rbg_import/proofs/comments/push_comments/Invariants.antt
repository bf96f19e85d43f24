-- What is left of the bytes.
use Rattle.std.proofs.Common.{length, ◌-◌}
use Rattle.rbg_import.proofs.comments.push_comments.Given as goal

abbrev pub decreases-loop-at : goal.decreases-loop-at
decreases-loop-at l = length l.bytes - l.at
