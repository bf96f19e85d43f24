-- What is told so far is right.
use Rattle.std.proofs.Common.{◌≡◌, ℕ, length, slice_get, Some}
use Rattle.rbg_flat.specs.Onward.{IsOnward}
use Rattle.rbg_flat.specs.declared.onward.Onward.{Onward}
use Rattle.rbg_flat.proofs.onward.all_onward.Given as goal

abbrev pub invariant-loop-index : goal.invariant-loop-index
invariant-loop-index g l = record {
  size : length l.onward.items ≡ l.index;
  told : (p : ℕ) (told : Onward) → slice_get l.onward.items p ≡ Some told → IsOnward l.game.rules p told;
}
