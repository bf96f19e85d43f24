-- What the loop over the switches keeps.
use Rattle.std.proofs.Common.{◌≡◌, ◌≤◌, ◌++◌, ℕ, List, [], All, length, false, IsPermutation}
use Rattle.rbg_rules.specs.Meaning.{IsSwitchAt}
use Rattle.rbg_moves.specs.internal.Gathering.{ListsSwitches}
use Rattle.rbg_moves.proofs.walking.Found.add_switches.Given as goal

abbrev pub invariant-loop-pair : goal.invariant-loop-pair
invariant-loop-pair l = record {
  taken : List (ℕ × ℕ);
  moves : IsPermutation l.fn.pairs (taken ++ l.pairs);
  switching : All (λ (q : ℕ × ℕ). IsSwitchAt l.game.rules q.1) taken;
  max : l.self.max ≡ l.fn.self.max;
  few : length l.self.moves ≤ l.self.max;
  front : l.front.items ≡ l.fn.front.items;
  lists : ListsSwitches l.game l.fn.pairs taken l.fn.front.items l.fn.self.max l.fn.self.moves l.self.moves [] false;
}

abbrev pub decreases-loop-pair : goal.decreases-loop-pair
decreases-loop-pair l = length l.pairs
