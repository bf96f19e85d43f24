-- The printed lines of a match.
use Rattle.std.specs.Prelude.{◌≡◌, ℕ, ◌+◌, ◌==◌, List, [], ◌∷◌, ◌++◌, length, codes, decimal, All, if◌then◌else◌}
use Rattle.std.specs.List.{flat_map}
use Rattle.rbg_wire.specs.Bytes.{LacksByte}
use Rattle.rbg_wire.specs.Messages.{game_letter}

-- a message on a stream, with its zero byte
abbrev pub with_zero : List ℕ → List ℕ
with_zero message = message ++ 0 ∷ []

-- The messages that the bytes hold: each ends before a zero byte. What follows the last one is no message.
pub record AreMessages (bytes : List ℕ) (messages : List (List ℕ)) : Type 0 where
  pub rest : List ℕ
  pub parts : bytes ≡ flat_map with_zero messages ++ rest
  pub whole : All (LacksByte 0) messages
  pub lacks : LacksByte 0 rest

-- a message as it is printed: of the description, which begins with `G`, only the number of its bytes
unfoldable pub printed_message : List ℕ → List ℕ
printed_message [] = []
printed_message (letter ∷ text) =
    if letter == game_letter then codes "G " ++ decimal (length text) else letter ∷ text

-- the line of a message to a seat
abbrev pub message_line : (seat : ℕ) → List ℕ → List ℕ
message_line seat message = decimal seat ++ codes " " ++ printed_message message ++ codes "\n"

-- the lines of the messages to a seat
abbrev pub seat_lines : (seat : ℕ) → List (List ℕ) → List ℕ
seat_lines seat messages = flat_map (message_line seat) messages

-- The lines of an outbox: those of the first seats, and then those of one more.
pub data IsPrinted : (outbox : List (List ℕ)) → (lines : List ℕ) → Type 0 where
  no_seat : IsPrinted [] []
  one_more : (seats : List (List ℕ)) (bytes lines : List ℕ) (messages : List (List ℕ))
      → IsPrinted seats lines
      → AreMessages bytes messages
      → IsPrinted (seats ++ bytes ∷ []) (lines ++ seat_lines (length seats + 1) messages)
