-- Messages to the seats, and the bytes that each seat has then. Seats are numbered from 1, as players are.
use Rattle.std.specs.Prelude.{
  ◌≡◌,
  ℕ,
  zero,
  suc,
  ◌<◌,
  ◌==◌,
  List,
  [],
  ◌∷◌,
  ◌++◌,
  length,
  map,
  slice_index,
  slice_index_or,
  if◌then◌else◌,
}
use Rattle.std.specs.List.{flat_map, range_with_len}
use Rattle.rbg_wire.specs.Messages.{AbstractMessage, spelling}

-- a message to a seat
pub record Delivery : Type 0 where
  pub seat : ℕ
  pub message : AbstractMessage

-- a message to one seat
abbrev pub to_seat : ℕ → AbstractMessage → List Delivery
to_seat seat message = record { seat = seat; message = message } ∷ []

-- a message to each seat
abbrev pub to_each : (seats : ℕ) → AbstractMessage → List Delivery
to_each zero message = []
to_each (suc seats) message = to_each seats message ++ to_seat (suc seats) message

-- a message to each seat but one
abbrev pub to_others : (seats : ℕ) → (one : ℕ) → AbstractMessage → List Delivery
to_others zero one message = []
to_others (suc seats) one message =
    to_others seats one message ++ (if suc seats == one then [] else to_seat (suc seats) message)

-- the bytes of the messages to a seat: their spellings joined, each with its zero byte
abbrev pub bytes_for : (seat : ℕ) → List Delivery → List ℕ
bytes_for seat outgoing = flat_map (λ delivery. if delivery.seat == seat then spelling delivery.message else []) outgoing

-- the bytes of each seat, seat 1 first
abbrev pub queued : (seats : ℕ) → List Delivery → List (List ℕ)
queued seats outgoing = map (λ seat. bytes_for seat outgoing) (range_with_len 1 seats)

-- what each seat has, seat 1 first, followed by the bytes of the messages to it
abbrev pub delivered_from : (seat : ℕ) → List (List ℕ) → List Delivery → List (List ℕ)
delivered_from seat [] outgoing = []
delivered_from seat (bytes ∷ others) outgoing = (bytes ++ bytes_for seat outgoing) ∷ delivered_from (suc seat) others outgoing

abbrev pub delivered : List (List ℕ) → List Delivery → List (List ℕ)
delivered outbox outgoing = delivered_from 1 outbox outgoing

-- the marks are the numbers of bytes that the seats have, seat 1 first
abbrev pub AreMarks : List (List ℕ) → List ℕ → Type 0
AreMarks outbox marks = (i : ℕ) → i < length outbox → slice_index marks i ≡ length (slice_index_or outbox i [])
