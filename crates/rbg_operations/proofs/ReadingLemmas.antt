-- Lemmas on what was read.
use Rattle.std.proofs.Common.{ℕ, List, refl, sym, subst, Global, Option, Vec}
use Rattle.rbg_console.proofs.FileLemmas.{more_known}
use Rattle.rbg_console.specs.Files.{IsFileReading}
use Rattle.rbg_console.specs.Inputs.{most_input, IsReading}
use Rattle.rbg_console.specs.declared.input.Input.{Input}
use Rattle.rbg_console.specs.declared.input.Input.TheVariants.{Whole, TooLong, Device}
use Rattle.rbg_operations.specs.Tasks.IsInputOf.{whole, too_long}
use Rattle.rbg_operations.specs.internal.Parts.{Gives, IsReadIn, IsReadInput}

-- what the reading of a file gives
pub file_given : (limit : ℕ) (known : Option (List ℕ)) (input : Input) (read : Option (Vec ℕ Global)) → IsFileReading limit known input → Gives input read → IsReadIn limit known read
file_given limit known (Whole bytes) read is gives =
    subst (IsReadIn limit known) (sym gives) (record { bytes = bytes.items; may = is.1; reads = (is.0, refl) })
file_given limit known TooLong read is gives =
    subst (IsReadIn limit known) (sym gives) (record { bytes = is.0; may = is.2; reads = is.1 })
file_given limit known Device read is gives = absurd gives

-- what the reading of standard input gives
pub input_given : (unread left : Option (List ℕ)) (input : Input) (read : Option (Vec ℕ Global)) → IsReading most_input unread left input → Gives input read → IsReadInput unread left read
input_given unread left (Whole bytes) read is gives =
    subst (IsReadInput unread left) (sym gives) (record { bytes = bytes.items; input = whole is; reads = (is.within, refl) })
input_given unread left TooLong read is gives =
    let more = more_known most_input unread left is.bytes is.above is.taken in
    subst (IsReadInput unread left) (sym gives) (record { bytes = more.0; input = too_long is more.1 more.2; reads = more.1 })
input_given unread left Device read is gives = absurd gives
