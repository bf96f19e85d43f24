-- What is queued for the lines. Lines are numbered from 0.
use Rattle.std.specs.Prelude.{ℕ, suc, ◌==◌, List, [], ◌∷◌, ◌++◌, Option, Some, None, if◌then◌else◌}
use Rattle.std.specs.List.{flat_map}
use Rattle.rbg_wire.specs.Messages.{refusal_message, spelling}
use Rattle.rbg_wire.specs.declared.message.Reason.{Reason}

-- bytes that are queued for a line
pub record Telling : Type 0 where
  pub line : ℕ
  pub bytes : List ℕ

-- the bytes for a line
abbrev pub bytes_to : (line : ℕ) → List Telling → List ℕ
bytes_to line told = flat_map (λ one. if one.line == line then one.bytes else []) told

-- what each line has, from that line on, followed by the bytes for it
abbrev pub told_from : (line : ℕ) → List (List ℕ) → List Telling → List (List ℕ)
told_from line [] told = []
told_from line (bytes ∷ others) told = (bytes ++ bytes_to line told) ∷ told_from (suc line) others told

-- what each line has, line 0 first, followed by the bytes for it
abbrev pub told_to : List (List ℕ) → List Telling → List (List ℕ)
told_to queues told = told_from 0 queues told

-- bytes for one line
abbrev pub telling : (line : ℕ) → List ℕ → List Telling
telling line bytes = record { line = line; bytes = bytes } ∷ []

-- a line is told that its message is refused
abbrev pub refusal_to : (line : ℕ) → Reason → List Telling
refusal_to line reason = telling line (spelling (refusal_message reason))

-- bytes for a seat as bytes for the line on it, if there is one
abbrev pub told_on : (seat : Option ℕ) → List ℕ → List Telling
told_on (Some line) bytes = telling line bytes
told_on None bytes = []

-- The bytes for the seats, seat 1 first, as bytes for the lines on them.
abbrev pub to_lines : (seats : List (Option ℕ)) → List (List ℕ) → List Telling
to_lines [] queues = []
to_lines (seat ∷ seats) [] = []
to_lines (seat ∷ seats) (bytes ∷ queues) = told_on seat bytes ++ to_lines seats queues
