-- What is known of the files that a program reads: the bytes of each, if those are known.
use Rattle.std.specs.Prelude.{◌≡◌, ◌≢◌, ℕ, ◌<◌, ◌≤◌, List, length, IfSome, Some, None}
use Rattle.std.specs.declared.option.Option.{Option}
use Rattle.rbg_console.specs.declared.input.Input.{Input}
use Rattle.rbg_console.specs.declared.input.Input.TheVariants.{Whole, TooLong, Device}

-- the bytes of each file by its name, if they are known
abbrev pub KnownFiles : Type 0
KnownFiles = (name : List ℕ) → Option (List ℕ)

-- these may be the bytes: they are the known ones, or none are known
abbrev pub MayBe : (known : Option (List ℕ)) → (bytes : List ℕ) → Type 0
MayBe known bytes = IfSome known (λ those. those ≡ bytes)

-- What a reading within a limit means for the bytes of a file. Nothing is claimed of a file that can't be read.
abbrev pub IsFileReading : (limit : ℕ) → (known : Option (List ℕ)) → Input → Type 0
IsFileReading limit known (Whole read) = (length read.items ≤ limit) × MayBe known read.items
IsFileReading limit known TooLong = (bytes : List ℕ) × (limit < length bytes) × MayBe known bytes
IsFileReading limit known Device = Unit {0}

-- What a reading within a limit means for bytes in memory: they are read whole, or they are more than the limit.
abbrev pub IsMemoryReading : (limit : ℕ) → (bytes : List ℕ) → Input → Type 0
IsMemoryReading limit bytes (Whole read) = (length bytes ≤ limit) × (read.items ≡ bytes)
IsMemoryReading limit bytes TooLong = limit < length bytes
IsMemoryReading limit bytes Device = ⊥

-- The same of a file in memory. One that isn't there can't be read.
abbrev pub IsMemoryFileReading : (limit : ℕ) → (held : Option (List ℕ)) → Input → Type 0
IsMemoryFileReading limit (Some bytes) input = IsMemoryReading limit bytes input
IsMemoryFileReading limit None input = input ≡ Device

-- no file has other bytes than before
abbrev pub KeepsFiles : (old new : KnownFiles) → Type 0
KeepsFiles old new = (name : List ℕ) → new name ≡ old name

-- no other file has other bytes than before
abbrev pub KeepsOthers : (name : List ℕ) → (old new : KnownFiles) → Type 0
KeepsOthers name old new = (other : List ℕ) → other ≢ name → new other ≡ old other
