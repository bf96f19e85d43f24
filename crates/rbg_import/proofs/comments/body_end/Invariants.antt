-- No end of a comment was met so far.
use Rattle.std.proofs.Common.{ℕ, ◌<◌, ◌≤◌}
use Rattle.rbg_import.specs.Comments.{StandsAt}
use Rattle.rbg_import.proofs.comments.body_end.Given as goal

abbrev pub invariant-loop-index : goal.invariant-loop-index
invariant-loop-index l = (k : ℕ) → l.from ≤ k → k < l.index → StandsAt l.bytes k 42 47 → ⊥
