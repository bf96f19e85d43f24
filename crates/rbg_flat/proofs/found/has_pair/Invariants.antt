-- The pair is none of those of the words so far.
use Rattle.std.proofs.Common.{ℕ, take, All, Contains}
use Rattle.rbg_flat.proofs.Common.{pairs_of, Word}
use Rattle.rbg_flat.proofs.found.has_pair.Given as goal

abbrev pub invariant-loop-word : goal.invariant-loop-word
invariant-loop-word l = All (λ (w : Word). ¬ Contains {X = ℕ × ℕ} (pairs_of w) (l.vertex, l.position)) (take l.word-index l.words)
