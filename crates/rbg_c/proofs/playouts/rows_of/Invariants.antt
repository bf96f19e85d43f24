-- The rows so far.
use Rattle.std.proofs.Common.{◌≡◌, map, take}
use Rattle.std.specs.List.{flat_map}
use Rattle.rbg_questions.specs.Chance.{counted_by}
use Rattle.rbg_c.specs.Playouts.{row_of}
use Rattle.rbg_c.proofs.playouts.rows_of.Given as goal

abbrev pub invariant-loop-tally : goal.invariant-loop-tally
invariant-loop-tally l = l.rows.items ≡ flat_map row_of (map counted_by (take l.tally-index l.tallies))
