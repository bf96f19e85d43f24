-- The bytes so far are below 256.
use Rattle.std.proofs.Common.{◌<◌, take, All}
use Rattle.rbg_script.proofs.writer.are_bytes.Given as goal

abbrev pub invariant-loop-byte : goal.invariant-loop-byte
invariant-loop-byte l = All (λ byte. byte < 256) (take l.byte-index l.bytes)
