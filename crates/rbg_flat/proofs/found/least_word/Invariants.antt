-- None of the words so far has a pair before the least.
use Rattle.std.proofs.Common.{◌≡◌, ◌<◌, take, length, Contains}
use Rattle.rbg_flat.proofs.Common.{IsBefore, first_of, first_at, Word}
use Rattle.rbg_flat.proofs.found.least_word.Given as goal

abbrev pub invariant-loop-index : goal.invariant-loop-index
invariant-loop-index l = record {
  below : l.least < length l.words;
  there : first_at l.words l.least ≡ (l.vertex, l.position);
  least : (w : Word) → Contains (take l.index l.words) w → ¬ IsBefore (first_of w) (l.vertex, l.position);
}
