-- Spaces alone were met so far.
use Rattle.std.proofs.Common.{◌≡◌, drop}
use Rattle.rbg_import.specs.Comments.{ends_line}
use Rattle.rbg_import.proofs.comments.ends_line.Given as goal

abbrev pub invariant-loop-byte : goal.invariant-loop-byte
invariant-loop-byte l = ends_line (drop l.byte-index l.rest) ≡ ends_line l.rest
