-- What was read so far is within the limit. The room for a read stays.
use Rattle.std.proofs.Common.{◌<◌, ◌≤◌, length}
use Rattle.std.specs.Io.KnownBytes.{Consumes}
use Rattle.rbg_console.proofs.input.read_chunks.Given as goal

abbrev pub invariant-loop : goal.invariant-loop
invariant-loop g l =
    (0 < length l.room)
    × (length l.bytes.items ≤ l.limit)
    × Consumes (g.R.Read.remaining l.initial.reader) (g.R.Read.remaining l.reader) l.bytes.items
