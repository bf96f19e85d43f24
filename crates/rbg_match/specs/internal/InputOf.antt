-- What the inputs of the code mean.
use Rattle.std.specs.Prelude.{ℕ, ◌≤◌}
use Rattle.rbg_wire.specs.Inboxes.{item_of}
use Rattle.rbg_match.specs.declared.input.Input.{Input}
use Rattle.rbg_match.specs.declared.input.Input.TheVariants.{Tick, Gone, Sent}
use Rattle.rbg_match.specs.Handling.{AbstractInput, tick, gone, sent}

abbrev pub input_of : Input → AbstractInput
input_of Tick = tick
input_of (Gone seat) = gone seat
input_of (Sent seat took) = sent seat (item_of took)

-- one of the seats 1, 2, .. up to that number
abbrev pub IsSeatOf : (seats : ℕ) → (seat : ℕ) → Type 0
IsSeatOf seats seat = (1 ≤ seat) × (seat ≤ seats)

-- the input is of no seat, or of one of that many seats
abbrev pub IsOfSeats : (seats : ℕ) → Input → Type 0
IsOfSeats seats Tick = Unit {0}
IsOfSeats seats (Gone seat) = IsSeatOf seats seat
IsOfSeats seats (Sent seat took) = IsSeatOf seats seat
