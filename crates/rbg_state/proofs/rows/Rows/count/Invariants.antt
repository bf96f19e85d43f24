-- The vertices of the columns so far are counted.
use Rattle.std.proofs.Common.{◌≡◌, ℕ, ◌*◌, ◌≤◌, List, length}
use Rattle.rbg_state.specs.Rows.{AreRows}
use Rattle.rbg_state.proofs.Counts.{held_by}
use Rattle.rbg_state.proofs.rows.Rows.count.Given as goal

abbrev pub invariant-loop-column : goal.invariant-loop-column
invariant-loop-column l = record {
  counted :
      (pieces : List ℕ) →
      AreRows pieces (length pieces) l.self.columns l.self.words.items →
      l.many ≡ held_by l.piece pieces (l.column * 64);
  few : l.many ≤ l.column * 64;
}
