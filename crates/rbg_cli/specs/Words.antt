-- Words of the command line that are judged before the command line is read, and what they ask for.
use Rattle.std.specs.List.{starts_with}
use Rattle.std.specs.Prelude.{◌≡◌, ℕ, false, nat_eq, List, [], ◌∷◌, Option, Some, None, codes}
use Rattle.rbg_operations.specs.Tasks.{NamedTask, RecordedTask}
use Rattle.rbg_operations.specs.Tasks.FileCommand.{Check, Referee, Replay, Migrate, Moves}

-- What is asked for.
--   match_of_input: a match whose description and script are both on standard input.
--   on_files: a command on files.
--   recorded_match: a match and its record.
--   cut_match: a match whose script may be cut off in its last line, of the description of a file, if one is named.
--   moves_of: the moves with which the game of a file opens, and those with which play can go on.
--   script_of: a script of the record that a file has.
pub data Wish : Type 0 where
  match_of_input : Wish
  on_files : NamedTask → Wish
  recorded_match : RecordedTask → Wish
  cut_match : (file : Option (List ℕ)) → Wish
  moves_of : (file : List ℕ) → Wish
  script_of : (file : List ℕ) → Wish

-- a match of a file's description, with its record in another file
abbrev pub recorded_file : (file other : List ℕ) → Wish
recorded_file file other = recorded_match (record { file = Some file; record_file = other })

-- a match whose script may be cut off, of a file's description
abbrev pub cut_file : (file : List ℕ) → Wish
cut_file file = cut_match (Some file)

-- a word that is taken as the name of a file: it doesn't begin with `-`
abbrev pub IsName : (word : List ℕ) → Type 0
IsName word = starts_with nat_eq word (codes "-") ≡ false

-- The words ask for this.
pub data Asks (words : List (List ℕ)) : Wish → Type 0 where
  nothing : words ≡ [] → Asks words match_of_input
  of_input : words ≡ codes "referee" ∷ [] → Asks words match_of_input
  check : (file : List ℕ)
      → words ≡ codes "check" ∷ file ∷ []
      → IsName file
      → Asks words (on_files (record { command = Check; file = file; record_file = [] }))
  of_file : (file : List ℕ)
      → words ≡ codes "referee" ∷ file ∷ []
      → IsName file
      → Asks words (on_files (record { command = Referee; file = file; record_file = [] }))
  replay : (file other : List ℕ)
      → words ≡ codes "replay" ∷ file ∷ other ∷ []
      → IsName file
      → IsName other
      → Asks words (on_files (record { command = Replay; file = file; record_file = other }))
  migrate : (file other : List ℕ)
      → words ≡ codes "migrate" ∷ file ∷ other ∷ []
      → IsName file
      → IsName other
      → Asks words (on_files (record { command = Migrate; file = file; record_file = other }))
  moves_after : (file other : List ℕ)
      → words ≡ codes "moves" ∷ file ∷ other ∷ []
      → IsName file
      → IsName other
      → Asks words (on_files (record { command = Moves; file = file; record_file = other }))
  record_input : (other : List ℕ)
      → words ≡ codes "referee" ∷ codes "--record" ∷ other ∷ []
      → IsName other
      → Asks words (recorded_match (record { file = None; record_file = other }))
  record_file : (file other : List ℕ)
      → words ≡ codes "referee" ∷ codes "--record" ∷ other ∷ file ∷ []
      → IsName file
      → IsName other
      → Asks words (recorded_file file other)
  file_recorded : (file other : List ℕ)
      → words ≡ codes "referee" ∷ file ∷ codes "--record" ∷ other ∷ []
      → IsName file
      → IsName other
      → Asks words (recorded_file file other)
  moves : (file : List ℕ)
      → words ≡ codes "moves" ∷ file ∷ []
      → IsName file
      → Asks words (moves_of file)
  cut_input : words ≡ codes "referee" ∷ codes "--cut" ∷ [] → Asks words (cut_match None)
  cut_before : (file : List ℕ)
      → words ≡ codes "referee" ∷ codes "--cut" ∷ file ∷ []
      → IsName file
      → Asks words (cut_file file)
  cut_after : (file : List ℕ)
      → words ≡ codes "referee" ∷ file ∷ codes "--cut" ∷ []
      → IsName file
      → Asks words (cut_file file)
  script : (file : List ℕ)
      → words ≡ codes "script" ∷ file ∷ []
      → IsName file
      → Asks words (script_of file)
