-- The second file has the bytes that it had before the first one was read.
use Rattle.std.proofs.Common.{subst}
use Rattle.rbg_console.specs.Inputs.{most_input}
use Rattle.rbg_operations.specs.internal.Parts.{IsReadIn}
use Rattle.rbg_operations.proofs.reading.read_both.Goals as goal

pub returns-clause-told : goal.returns-clause-told
returns-clause-told g c =
    subst (λ known. IsReadIn most_input known c.in_ok-told.told) (c.read_within.ensures.kept c.args.other.now) c.in_ok-told.ensures
