-- What is heard of lines and clock in a call of `serve`.
use Rattle.std.specs.Prelude.{◌≡◌, ◌==◌, ◌≤◌, ℕ, Bool, true, false, List, [], ◌∷◌, ◌++◌, if◌then◌else◌}
use Rattle.std.specs.List.{flat_map, count_by}
use Rattle.rbg_script.specs.Events.{AbstractEvent, piece, end_of_stream, moment_alone}

-- Something that is heard at a moment. A poll with the answer `Nothing` isn't heard.
--   gave: the line of a seat was polled and gave bytes.
--   ended: it was polled, and has ended.
--   failed_to_give: it was polled, and failed.
--   failed_to_take: bytes were put to it, and it failed.
--   round_over: a round is over.
pub data Heard : Type 0 where
  gave : (seat at : ℕ) (bytes : List ℕ) → Heard
  ended : (seat at : ℕ) → Heard
  failed_to_give : (seat at : ℕ) → Heard
  failed_to_take : (seat at : ℕ) → Heard
  round_over : (at : ℕ) → Heard

-- what the match is told of it
abbrev pub event_of : Heard → AbstractEvent
event_of (gave seat at bytes) = piece seat at bytes
event_of (ended seat at) = end_of_stream seat at
event_of (failed_to_give seat at) = end_of_stream seat at
event_of (failed_to_take seat at) = end_of_stream seat at
event_of (round_over at) = moment_alone at

-- its moment
abbrev pub heard_at : Heard → ℕ
heard_at (gave seat at bytes) = at
heard_at (ended seat at) = at
heard_at (failed_to_give seat at) = at
heard_at (failed_to_take seat at) = at
heard_at (round_over at) = at

-- the seat whose line it is of; 0 for the clock
abbrev pub seat_of : Heard → ℕ
seat_of (gave seat at bytes) = seat
seat_of (ended seat at) = seat
seat_of (failed_to_give seat at) = seat
seat_of (failed_to_take seat at) = seat
seat_of (round_over at) = 0

-- whether a put failed
abbrev pub is_failed_put : Heard → Bool
is_failed_put (failed_to_take seat at) = true
is_failed_put _ = false

-- whether a line was polled
abbrev pub is_polled : Heard → Bool
is_polled (gave seat at bytes) = true
is_polled (ended seat at) = true
is_polled (failed_to_give seat at) = true
is_polled _ = false

-- whether a round is over
abbrev pub is_round_over : Heard → Bool
is_round_over (round_over at) = true
is_round_over _ = false

-- the bytes that the seat's line gave
abbrev pub bytes_of : (seat : ℕ) → Heard → List ℕ
bytes_of seat (gave other at bytes) = if other == seat then bytes else []
bytes_of seat _ = []

-- whether the seat's line has ended
abbrev pub is_end_of : (seat : ℕ) → Heard → Bool
is_end_of seat (ended other at) = other == seat
is_end_of seat _ = false

-- whether the seat's line failed
abbrev pub is_failure_of : (seat : ℕ) → Heard → Bool
is_failure_of seat (failed_to_give other at) = other == seat
is_failure_of seat (failed_to_take other at) = other == seat
is_failure_of seat _ = false

-- all bytes that the seat's line gave
abbrev pub given_by : (seat : ℕ) → List Heard → List ℕ
given_by seat heard = flat_map (bytes_of seat) heard

-- how often the seat's line ended
abbrev pub ends_of : (seat : ℕ) → List Heard → ℕ
ends_of seat heard = count_by (is_end_of seat) heard

-- how often the seat's line failed
abbrev pub failures_of : (seat : ℕ) → List Heard → ℕ
failures_of seat heard = count_by (is_failure_of seat) heard

-- how many rounds are over
abbrev pub rounds_of : List Heard → ℕ
rounds_of heard = count_by is_round_over heard

-- The seat's line is live: it has neither ended nor failed.
abbrev pub IsLive : (seat : ℕ) → List Heard → Type 0
IsLive seat heard = (ends_of seat heard ≡ 0) × (failures_of seat heard ≡ 0)

-- The clock was read at these moments while this was heard: each event, except a failed put, has its own reading.
--   nothing: at first there is no reading, and nothing was heard.
--   asked: the clock is read, and nothing is heard at that reading.
--   heard_alone: the clock is read, and something other than a failed put is heard at that reading.
--   heard_with_it: a put fails at the last reading.
pub data IsTimed : (moments : List ℕ) → List Heard → Type 0 where
  nothing :
      IsTimed [] []
  asked : {moments : List ℕ} {heard : List Heard} →
      IsTimed moments heard →
      (at : ℕ) →
      IsTimed (moments ++ at ∷ []) heard
  heard_alone : {moments : List ℕ} {heard : List Heard} →
      IsTimed moments heard →
      (one : Heard) →
      is_failed_put one ≡ false →
      IsTimed (moments ++ heard_at one ∷ []) (heard ++ one ∷ [])
  heard_with_it : (moments : List ℕ) (at : ℕ) {heard : List Heard} →
      IsTimed (moments ++ at ∷ []) heard →
      (seat : ℕ) →
      IsTimed (moments ++ at ∷ []) (heard ++ failed_to_take seat at ∷ [])

-- In a match of that many seats this is heard of lines that are live, and of the clock.
pub data IsOfLiveLines (seats : ℕ) : List Heard → Type 0 where
  nothing :
      IsOfLiveLines seats []
  of_line : {heard : List Heard} →
      IsOfLiveLines seats heard →
      (one : Heard) →
      1 ≤ seat_of one →
      seat_of one ≤ seats →
      IsLive (seat_of one) heard →
      IsOfLiveLines seats (heard ++ one ∷ [])
  of_clock : {heard : List Heard} →
      IsOfLiveLines seats heard →
      (at : ℕ) →
      IsOfLiveLines seats (heard ++ round_over at ∷ [])
