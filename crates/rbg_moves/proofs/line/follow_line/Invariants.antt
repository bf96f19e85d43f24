-- A line was followed so far.
use Rattle.std.proofs.Common.{◌≡◌, ◌-◌, ◌≤◌, ℕ, List, ◌++◌, length}
use Rattle.rbg_rules.specs.Meaning.{IsPlaceOf}
use Rattle.rbg_state.specs.History.{capacity_of, IsAfter}
use Rattle.rbg_moves.specs.internal.Lines.{IsLine}
use Rattle.rbg_moves.specs.internal.Stepping.{place_beyond}
use Rattle.rbg_moves.proofs.line.follow_line.Given as goal

abbrev pub invariant-loop-many : goal.invariant-loop-many
invariant-loop-many g l = record {
  pairs : List (ℕ × ℕ);
  search : l.search ≡ l.fn.search;
  line : IsLine l.fn.search.game l.fn.state.state l.after pairs l.state.state l.last;
  front : l.front.items ≡ l.fn.front.items ++ pairs;
  count : length pairs ≡ l.many;
  within : l.many ≤ l.most;
  place : IsPlaceOf l.fn.search.game (place_beyond l.state.state l.last);
  after : IsAfter l.fn.state l.state;
  capacity : capacity_of l.fn.state ≤ capacity_of l.state;
}

abbrev pub decreases-loop-many : goal.decreases-loop-many
decreases-loop-many g l = l.most - l.many
