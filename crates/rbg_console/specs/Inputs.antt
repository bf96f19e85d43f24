-- What a reading means for the bytes that a reader has left, if those are known.
use Rattle.std.specs.Prelude.{ℕ, ◌<◌, ◌≤◌, List, length}
use Rattle.std.specs.Io.KnownBytes.{Consumes, IsAtEnd}
use Rattle.std.specs.declared.option.Option.{Option}
use Rattle.rbg_console.specs.declared.input.Input.{Input}
use Rattle.rbg_console.specs.declared.input.Input.TheVariants.{Whole, TooLong, Device}

-- the maximum number of bytes of standard input
abbrev pub most_input : ℕ
most_input = 16777216

-- these bytes are all that the reader had, and no more than the limit
pub record IsAll (limit : ℕ) (old new : Option (List ℕ)) (bytes : List ℕ) : Type 0 where
  pub within : length bytes ≤ limit
  pub taken : Consumes old new bytes
  pub ended : IsAtEnd new

-- the reader gave more bytes than the limit
pub record IsAbove (limit : ℕ) (old new : Option (List ℕ)) : Type 0 where
  pub bytes : List ℕ
  pub above : limit < length bytes
  pub taken : Consumes old new bytes

-- the reader gave bytes within the limit, and it isn't known whether they are all
pub record IsCutOff (limit : ℕ) (old new : Option (List ℕ)) : Type 0 where
  pub bytes : List ℕ
  pub within : length bytes ≤ limit
  pub taken : Consumes old new bytes

-- What a reading within a limit means for what the reader had left before, and has left now.
abbrev pub IsReading : (limit : ℕ) → (old new : Option (List ℕ)) → Input → Type 0
IsReading limit old new (Whole bytes) = IsAll limit old new bytes.items
IsReading limit old new TooLong = IsAbove limit old new
IsReading limit old new Device = IsCutOff limit old new
