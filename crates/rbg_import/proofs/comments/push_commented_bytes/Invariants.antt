-- The text so far is that of the bytes so far.
use Rattle.std.proofs.Common.{◌≡◌, ◌++◌, take, flat_map}
use Rattle.rbg_import.specs.Comments.{commented_byte}
use Rattle.rbg_import.proofs.comments.push_commented_bytes.Given as goal

abbrev pub invariant-loop-byte : goal.invariant-loop-byte
invariant-loop-byte l = l.output.items ≡ l.fn.output.items ++ flat_map commented_byte (take l.byte-index l.body)
