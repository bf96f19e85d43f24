-- What files in memory hold.
use Rattle.std.specs.Prelude.{ℕ, List, Option, option_map}
use Rattle.std.specs.BTreeMap.{get_by_text}
use Rattle.rbg_console.specs.declared.memory.MemoryFiles.{MemoryFiles}

-- the bytes of the file with this name
abbrev pub bytes_in : MemoryFiles → (name : List ℕ) → Option (List ℕ)
bytes_in memory name = option_map (λ bytes. bytes.items) (get_by_text memory.files name)
