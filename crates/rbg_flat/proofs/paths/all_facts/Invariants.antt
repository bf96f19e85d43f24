-- What is told so far is right.
use Rattle.std.proofs.Common.{◌≡◌, ℕ, length, slice_get, Some}
use Rattle.rbg_flat.proofs.Common.{Facts, AreFacts, way_by}
use Rattle.rbg_flat.proofs.paths.all_facts.Given as goal

abbrev pub invariant-loop-index : goal.invariant-loop-index
invariant-loop-index g l = record {
  size : length l.facts.items ≡ l.index;
  told : (p : ℕ) (told : Facts) → slice_get l.facts.items p ≡ Some told → AreFacts (way_by l.leaps) l.game p told;
}
