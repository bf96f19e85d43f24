-- Laws of what a hall hands to an archive.
use Rattle.std.specs.Prelude.{◌≡◌, ◌==◌, ◌≤◌, ◌<◌, ◌⊎◌, ℕ, suc, Bool, true, false, List, ◌++◌, Contains, count_by}
use Rattle.rbg_script.specs.Events.{AbstractEvent}
use Rattle.rbg_hall.specs.Halls.{AbstractTable, HallState, begun_at}
use Rattle.rbg_hall.specs.Serving.{has_ended}
use Rattle.rbg_network.specs.Archives.{Handed, kept, lost}
use Rattle.rbg_hosting.specs.Archives.{IsArchivedRun}
use Rattle.rbg_hosting.specs.Records.{IsPrintedMatch, match_line}

-- whether it is what became of the record of the match of this number
abbrev pub is_of : (number : ℕ) → Handed → Bool
is_of number (kept other bytes) = other == number
is_of number (lost other) = other == number

-- once if a match has ended, and else not at all
abbrev pub times : (has_ended : Bool) → ℕ
times true = 1
times false = 0

-- The record of each match that has ended was handed over once, under its number, and no other one.
abbrev pub EachIsHandedOnce : Type 0
EachIsHandedOnce =
    (starts : List AbstractTable) (matches : ℕ) (events : List AbstractEvent) (state : HallState)
    (queues : List (List ℕ)) (handed : List Handed) (index : ℕ)
    → IsArchivedRun starts matches events state queues handed
    → index < matches
    → count_by (is_of (suc index)) handed ≡ times (has_ended (begun_at state.tables (suc index)))

-- What is kept of a match is what is printed of it at any later time, after its line.
abbrev pub KeptRecordsArePrinted : Type 0
KeptRecordsArePrinted =
    (starts : List AbstractTable) (matches : ℕ) (events : List AbstractEvent) (state : HallState)
    (queues : List (List ℕ)) (handed : List Handed) (number : ℕ) (bytes : List ℕ)
    → IsArchivedRun starts matches events state queues handed
    → Contains handed (kept number bytes)
    → (start : AbstractTable) (printed : List ℕ)
    → IsPrintedMatch number start (begun_at state.tables number) printed
    → printed ≡ match_line number ++ bytes
