-- What was told so far is so.
use Rattle.rbg_base.proofs.Common.{◌≡◌, ℕ, length, slice_get, Some}
use Rattle.rbg_rules.specs.Meaning.{beginning, inside}
use Rattle.rbg_flat.proofs.Common.{AreFollowers, Followers}
use Rattle.rbg_flat.proofs.followers.all_inside.Given as goal

abbrev pub invariant-loop-index : goal.invariant-loop-index
invariant-loop-index g l = record {
  size : length l.made.items ≡ l.index;
  told : (p : ℕ) (told : Followers) → slice_get l.made.items p ≡ Some told → AreFollowers l.game (beginning (inside p)) told;
}
