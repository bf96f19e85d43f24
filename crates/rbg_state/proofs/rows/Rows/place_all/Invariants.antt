-- The rows of the vertices so far.
use Rattle.std.proofs.Common.{◌≡◌}
use Rattle.rbg_state.specs.Rows.{AreRows}
use Rattle.rbg_state.proofs.rows.Rows.place_all.Given as goal

abbrev pub invariant-loop-index : goal.invariant-loop-index
invariant-loop-index l = AreRows l.pieces l.index l.self.columns l.self.words.items × (l.self.columns ≡ l.fn.self.columns)
