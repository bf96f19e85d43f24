-- Each call has fewer patterns or fewer modifiers before it; the semi-state is given back after each.
use Rattle.std.proofs.Common.{◌+◌, ◌*◌, ◌++◌, ℕ, List, length, IsPermutation}
use Rattle.rbg_search.specs.Start.{start_of}
use Rattle.rbg_flat.specs.Paths.{way_of}
use Rattle.rbg_flat.specs.internal.Sets.{weight}
use Rattle.rbg_search.proofs.Common.{FindsBySets, TriesAfter}
use Rattle.rbg_search.proofs.search.Search.+search.Given as goal

abbrev pub decreases-flat_part : goal.decreases-flat_part
decreases-flat_part g l = l.nested * 1000000 + 2

abbrev pub decreases-ask : goal.decreases-ask
decreases-ask g l = l.nested * 1000000 + 1

abbrev pub decreases-word_runs : goal.decreases-word_runs
decreases-word_runs g l = l.nested * 1000000 + l.modifiers * 10 + 5

abbrev pub decreases-runs_after : goal.decreases-runs_after
decreases-runs_after g l = l.nested * 1000000 + l.modifiers * 10 + 4

abbrev pub decreases-runs_after_one : goal.decreases-runs_after_one
decreases-runs_after_one g l = l.nested * 1000000 + l.modifiers * 10 + 3

abbrev pub invariant-flat_part-loop-vertex : goal.invariant-flat_part-loop-vertex
invariant-flat_part-loop-vertex g l = FindsBySets (way_of l.fn.paths) l.fn.self l.self l.fn.state l.state (start_of l.fn.origin) l.flat.value

abbrev pub decreases-flat_part-loop-vertex : goal.decreases-flat_part-loop-vertex
decreases-flat_part-loop-vertex g l = weight l.flat.value.sets

abbrev pub invariant-runs_after-loop-pair : goal.invariant-runs_after-loop-pair
invariant-runs_after-loop-pair g l = record {
  done : List (ℕ × ℕ);
  whole : IsPermutation l.fn.pairs (done ++ l.pairs);
  tries : TriesAfter l.fn.self l.self l.fn.state l.state l.fn.pairs done l.fn.modifiers;
}

abbrev pub decreases-runs_after-loop-pair : goal.decreases-runs_after-loop-pair
decreases-runs_after-loop-pair g l = length l.pairs
