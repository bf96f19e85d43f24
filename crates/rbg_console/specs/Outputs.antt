-- What is written, and the status that is returned.
use Rattle.std.specs.Prelude.{◌≡◌, ℕ, List, take}
use Rattle.std.specs.Io.KnownBytes.{Appends}
use Rattle.std.specs.declared.option.Option.{Option}
use Rattle.rbg_console.specs.declared.status.Status.{Status}
use Rattle.rbg_console.specs.declared.status.Status.TheVariants.{Device}

-- a front part of the text is added to what the writer holds
pub record AppendsFront (old new : Option (List ℕ)) (text : List ℕ) : Type 0 where
  pub count : ℕ
  pub part : Appends old new (take count text)

-- Either the text is added to what the writer holds, and the status is the one that is wanted; or a write or the flush
-- failed after a front part of the text, and the status is that of a device.
pub data IsWritten (old new : Option (List ℕ)) (text : List ℕ) (wanted status : Status) : Type 0 where
  whole : Appends old new text → status ≡ wanted → IsWritten old new text wanted status
  failed : AppendsFront old new text → status ≡ Device → IsWritten old new text wanted status
