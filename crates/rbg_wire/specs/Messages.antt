-- Messages: which bytes spell which message. Each message has one spelling.
use Rattle.std.specs.Prelude.{◌≢◌, ℕ, ◌<◌, ◌≤◌, ◌^◌, IsTrue, List, [], ◌∷◌, ◌++◌, length, codes, decimal, All}
use Rattle.std.specs.List.{flat_map}
use Rattle.rbg_base.specs.Names.{is_name}
use Rattle.rbg_wire.specs.Limits.{most_scores}
use Rattle.rbg_wire.specs.declared.message.Reason.{Reason}
use Rattle.rbg_wire.specs.declared.message.Reason.TheVariants.{Unreadable, OutOfTurn, NotLegal, MoveTooLong, NoSeat}
use Rattle.rbg_wire.specs.declared.message.Message.{Message}
use Rattle.rbg_wire.specs.declared.message.Message.TheVariants.{Who, Game, Limits, Moved, Refused, Ended, Join}
use Rattle.rbg_wire.specs.declared.outcome.Outcome.{Outcome}
use Rattle.rbg_wire.specs.declared.outcome.Outcome.TheVariants.{Finished, Time, Refusals, Gone, Heavy}

-- a message, apart from where its name, text and pairs are in memory
pub data AbstractMessage : Type 0 where
  who_message : (player : ℕ) (name : List ℕ) → AbstractMessage
  game_message : (text : List ℕ) → AbstractMessage
  limits_message : (turn_ms refusals : ℕ) → AbstractMessage
  move_message : (pairs : List (ℕ × ℕ)) → AbstractMessage
  refusal_message : (reason : Reason) → AbstractMessage
  end_message : (outcome : Outcome) → AbstractMessage
  join_message : (table : ℕ) → AbstractMessage

abbrev pub message_of : Message → AbstractMessage
message_of (Who player name) = who_message player name.now
message_of (Game text) = game_message text.now
message_of (Limits turn_ms refusals) = limits_message turn_ms refusals
message_of (Moved pairs) = move_message pairs
message_of (Refused reason) = refusal_message reason
message_of (Ended outcome) = end_message outcome
message_of (Join table) = join_message table

-- A number is spelled in decimal digits, with no leading zero and no sign: std's `decimal`.

-- a vertex and a position, with a space between them
abbrev pub pair_text : ℕ × ℕ → List ℕ
pair_text p = decimal p.0 ++ codes " " ++ decimal p.1

-- the pairs, with a space before each but the first
unfoldable pub pairs_text : List (ℕ × ℕ) → List ℕ
pairs_text [] = []
pairs_text (p ∷ ps) = pair_text p ++ flat_map (λ q. codes " " ++ pair_text q) ps

unfoldable pub outcome_text : Outcome → List ℕ
outcome_text (Finished scores) = codes "E0" ++ flat_map (λ score. codes " " ++ decimal score) scores
outcome_text (Time player) = codes "E1 " ++ decimal player
outcome_text (Refusals player) = codes "E2 " ++ decimal player
outcome_text (Gone player) = codes "E3 " ++ decimal player
outcome_text Heavy = codes "E4"

abbrev pub reason_number : Reason → ℕ
reason_number Unreadable = 1
reason_number OutOfTurn = 2
reason_number NotLegal = 3
reason_number MoveTooLong = 4
reason_number NoSeat = 5

-- The letters with which messages begin are `W`, `G`, `L`, `M`, `R`, `E` and `H`. These are the codes of those that a
-- proof names: all but `R` and `H`.
abbrev pub who_letter : ℕ
who_letter = 87

abbrev pub game_letter : ℕ
game_letter = 71

abbrev pub limits_letter : ℕ
limits_letter = 76

abbrev pub move_letter : ℕ
move_letter = 77

abbrev pub end_letter : ℕ
end_letter = 69

-- the bytes of a message before its zero byte
unfoldable pub message_text : AbstractMessage → List ℕ
message_text (who_message player name) = codes "W" ++ decimal player ++ codes " " ++ name
message_text (game_message text) = codes "G" ++ text
message_text (limits_message turn_ms refusals) = codes "L" ++ decimal turn_ms ++ codes " " ++ decimal refusals
message_text (move_message pairs) = codes "M" ++ pairs_text pairs
message_text (refusal_message reason) = codes "R" ++ decimal (reason_number reason)
message_text (end_message outcome) = outcome_text outcome
message_text (join_message table) = codes "H" ++ decimal table

-- the bytes of a message on a stream
unfoldable pub spelling : AbstractMessage → List ℕ
spelling message = message_text message ++ 0 ∷ []

-- the maximum number of digits of a vertex or a position in a message
abbrev pub most_pair_digits : ℕ
most_pair_digits = 9

-- a vertex and a position with few digits
abbrev pub IsShortPair : ℕ × ℕ → Type 0
IsShortPair p = (p.0 < 10 ^ most_pair_digits) × (p.1 < 10 ^ most_pair_digits)

-- pairs that have a spelling: at least one, of short numbers
pub record ArePairs (pairs : List (ℕ × ℕ)) : Type 0 where
  pub some : 0 < length pairs
  pub short : All IsShortPair pairs

-- an outcome that has a spelling: 1 to 8 scores, and numbers below 2 ^ 64
abbrev pub OutcomeHasSpelling : Outcome → Type 0
OutcomeHasSpelling (Finished scores) =
    (0 < length scores)
    × (length scores ≤ most_scores)
    × All (λ score. score < 2 ^ 64) scores
OutcomeHasSpelling (Time player) = player < 2 ^ 64
OutcomeHasSpelling (Refusals player) = player < 2 ^ 64
OutcomeHasSpelling (Gone player) = player < 2 ^ 64
OutcomeHasSpelling Heavy = Unit {0}

-- a message that has a spelling: its name is a name, and its text has no zero byte
abbrev pub HasSpelling : AbstractMessage → Type 0
HasSpelling (who_message player name) = (player < 2 ^ 64) × IsTrue (is_name name)
HasSpelling (game_message text) = All (λ byte. byte ≢ 0) text
HasSpelling (limits_message turn_ms refusals) = (turn_ms < 2 ^ 64) × (refusals < 2 ^ 64)
HasSpelling (move_message pairs) = ArePairs pairs
HasSpelling (refusal_message reason) = Unit {0}
HasSpelling (end_message outcome) = OutcomeHasSpelling outcome
HasSpelling (join_message table) = table < 2 ^ 64
