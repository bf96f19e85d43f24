-- What was found so far is right.
use Rattle.std.proofs.Common.{ℕ, ◌≤◌}
use Rattle.rbg_rules.specs.Meaning.{IsPatternAt, Start}
use Rattle.rbg_flat.proofs.Common.{way_of, IsBegun, AreSizedFor, AreOn, IsMarked, IsOpen, IsDone, KeepsDone, weight}
use Rattle.rbg_flat.proofs.flat.Flat.advance.Given as goal

abbrev pub invariant-loop-place : goal.invariant-loop-place
invariant-loop-place l = record {
  sized : AreSizedFor l.game l.self.sets;
  on : AreOn l.game l.self.sets;
  begun :
      (f : Start) →
      IsBegun (way_of l.paths) l.game l.state.state f (IsMarked l.fn.self.sets) (IsOpen l.fn.self.sets) l.fn.self.ends →
      IsBegun (way_of l.paths) l.game l.state.state f (IsMarked l.self.sets) (IsOpen l.self.sets) l.self.ends;
  still_done : KeepsDone l.fn.self.sets l.self.sets;
  quiet : (v p : ℕ) → IsPatternAt l.game.rules p → IsDone l.self.sets v p → IsDone l.fn.self.sets v p;
  lighter : weight l.self.sets ≤ weight l.fn.self.sets;
}

abbrev pub decreases-loop-place : goal.decreases-loop-place
decreases-loop-place l = weight l.self.sets
