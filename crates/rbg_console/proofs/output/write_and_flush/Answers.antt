-- All that was written stays if the flush fails.
use Rattle.std.proofs.Common.{rules}
use Rattle.std.proofs.KnownBytes.{Appends-kept}
use Rattle.rbg_console.proofs.OutputLemmas.{front_whole}
use Rattle.rbg_console.proofs.output.write_and_flush.Goals as goal

pub returns-clause-err : goal.returns-clause-err
returns-clause-err g c =
    let all = Appends-kept _ _ _ _ c.in_ok-write_whole.ensures.ok c.flush.ensures.bytes in
    let front = front_whole _ _ _ all in
    search rules
