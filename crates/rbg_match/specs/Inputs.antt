-- What a list of events means: inputs, each at its counted moment.
use Rattle.std.specs.Prelude.{
  ◌≡◌,
  ℕ,
  ◌-◌,
  ◌&&◌,
  nat_le,
  List,
  [],
  ◌∷◌,
  ◌++◌,
  length,
  map,
  max,
  min,
  replicate,
  Bool,
  false,
  slice_index_or,
  slice_set,
  if◌then◌else◌,
}
use Rattle.rbg_wire.specs.Streams.{Rest, incomplete, Cut, cut}
use Rattle.rbg_script.specs.Events.{AbstractEvent, piece, end_of_stream, moment_alone, moment_of}
use Rattle.rbg_match.specs.Handling.{AbstractInput, tick, gone, sent}
use Rattle.rbg_match.specs.Limits.{message_limit, latest_moment}

-- An input at its counted moment.
pub record TimedInput : Type 0 where
  pub moment : ℕ
  pub input : AbstractInput

-- What the next events need of those so far: the maximum counted moment, and for each seat, seat 1 first, the end of
-- its stream that is no whole message yet.
pub record Streams : Type 0 where
  pub moment : ℕ
  pub rests : List Rest

-- The counted moment of an event that gives this moment: no moment is earlier than one before it, or later than the
-- latest.
abbrev pub counted : Streams → (at : ℕ) → ℕ
counted streams at = max streams.moment (min at latest_moment)

-- whether a match of that many seats has this one
abbrev pub is_seat_in : (seats seat : ℕ) → Bool
is_seat_in seats seat = nat_le 1 seat && nat_le seat seats

-- whether the match has that seat
abbrev pub has_seat : List Rest → (seat : ℕ) → Bool
has_seat rests seat = is_seat_in (length rests) seat

-- the end of a seat's stream that is no whole message yet
abbrev pub rest_of : List Rest → (seat : ℕ) → Rest
rest_of rests seat = slice_index_or rests (seat - 1) (incomplete [])

-- the items that a piece completes in its seat's stream, and the new rest
abbrev pub cut_of : List Rest → (seat : ℕ) → (bytes : List ℕ) → Cut
cut_of rests seat bytes = cut message_limit (rest_of rests seat) bytes

-- The inputs that an event means. A piece is a moment and then, in order, the items that it completes in its seat's
-- stream. The end of a stream is that end. A moment, or an event of a seat that the match doesn't have, is a moment.
abbrev pub inputs_in : List Rest → AbstractEvent → List AbstractInput
inputs_in rests (piece seat at bytes) =
    tick ∷ (if has_seat rests seat then map (sent seat) (cut_of rests seat bytes).items else [])
inputs_in rests (end_of_stream seat at) = (if has_seat rests seat then gone seat else tick) ∷ []
inputs_in rests (moment_alone at) = tick ∷ []

-- The event is a moment of the clock, or of a seat that the match doesn't have. So it means a tick, and no stream
-- changes.
abbrev pub IsTickAlone : List Rest → AbstractEvent → Type 0
IsTickAlone rests (piece seat at bytes) = has_seat rests seat ≡ false
IsTickAlone rests (end_of_stream seat at) = has_seat rests seat ≡ false
IsTickAlone rests (moment_alone at) = Unit {0}

-- the rests of the streams after an event
abbrev pub rests_after : List Rest → AbstractEvent → List Rest
rests_after rests (piece seat at bytes) =
    if has_seat rests seat then slice_set rests (seat - 1) (cut_of rests seat bytes).rest else rests
rests_after rests (end_of_stream seat at) = rests
rests_after rests (moment_alone at) = rests

-- these inputs, each at the same moment
abbrev pub inputs_at : (moment : ℕ) → List AbstractInput → List TimedInput
inputs_at moment inputs = map (λ one. record { moment = moment; input = one }) inputs

-- the inputs that an event means, each at the event's counted moment
abbrev pub timed_inputs_in : Streams → AbstractEvent → List TimedInput
timed_inputs_in streams event = inputs_at (counted streams (moment_of event)) (inputs_in streams.rests event)

-- the streams after an event
abbrev pub streams_after : Streams → AbstractEvent → Streams
streams_after streams event = record {
  moment = counted streams (moment_of event);
  rests = rests_after streams.rests event;
}

-- the counted moment of a match's first moment
abbrev pub counted_first : (now : ℕ) → ℕ
counted_first now = min now latest_moment

-- the streams of that many seats at a match's first moment, when nothing has arrived
abbrev pub streams_at_start : (seats now : ℕ) → Streams
streams_at_start seats now = record { moment = counted_first now; rests = replicate seats (incomplete []) }

-- the inputs that a list of events means, in turn
abbrev pub timed_inputs_of : Streams → List AbstractEvent → List TimedInput
timed_inputs_of streams [] = []
timed_inputs_of streams (event ∷ events) =
    timed_inputs_in streams event ++ timed_inputs_of (streams_after streams event) events
