-- How far the recursion goes, and what the loop over the pairs keeps.
use Rattle.std.proofs.Common.{◌≡◌, ◌≤◌, ◌-◌, ◌*◌, ◌+◌, ◌++◌, ℕ, List, All, length}
use Rattle.rbg_base.specs.Move.{most_pairs}
use Rattle.rbg_rules.specs.Meaning.{point_of, IsSwitchAt}
use Rattle.rbg_moves.proofs.Further.{IsSoFar, IsWhole}
use Rattle.rbg_moves.proofs.walking.+walk.Given as goal

abbrev pub decreases-walk : goal.decreases-walk
decreases-walk g l = 3 * (most_pairs - length l.front.now.items)

abbrev pub decreases-walk_after : goal.decreases-walk_after
decreases-walk_after g l = 3 * (most_pairs - length l.front.now.items) - 1

abbrev pub decreases-walk_on : goal.decreases-walk_on
decreases-walk_on g l = 3 * (most_pairs - length l.front.now.items) + 1

abbrev pub invariant-walk-loop-pair : goal.invariant-walk-loop-pair
invariant-walk-loop-pair g l = record {
  done : List (ℕ × ℕ);
  first : List (ℕ × ℕ);
  whole : IsWhole l.fn.search.game l.fn.state.state (point_of l.fn.after) (done ++ l.pairs);
  plain : All (λ (q : ℕ × ℕ). ¬ IsSwitchAt l.fn.search.game.rules q.1) l.pairs;
  search : l.search ≡ record l.fn.search { opened = l.search.opened; taken = l.search.taken };
  state : l.state ≡ record l.fn.state { room = l.state.room };
  room : l.fn.state.room ≤ l.state.room;
  enough : 2 ≤ l.state.room;
  front : l.front.items ≡ l.fn.front.items;
  max : l.found.max ≡ l.fn.found.max;
  so_far : IsSoFar l.fn.search l.search (record { state = l.fn.state.state; last = l.fn.after }) l.fn.front.items l.fn.found.max l.fn.found.moves l.found.moves first done;
}

abbrev pub decreases-walk-loop-pair : goal.decreases-walk-loop-pair
decreases-walk-loop-pair g l = length l.pairs
