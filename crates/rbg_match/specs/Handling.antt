-- How a match handles one input.
use Rattle.std.specs.Prelude.{◌≡◌, ◌≢◌, ℕ, ◌<◌, ◌≤◌, List, [], ◌++◌, length, Some, None}
use Rattle.rbg_wire.specs.declared.message.Reason.{Reason}
use Rattle.rbg_wire.specs.declared.message.Reason.TheVariants.{Unreadable, OutOfTurn, NotLegal, MoveTooLong}
use Rattle.rbg_wire.specs.declared.outcome.Outcome.{Outcome}
use Rattle.rbg_wire.specs.declared.outcome.Outcome.TheVariants.{Time, Refusals, Gone, Heavy}
use Rattle.rbg_wire.specs.Messages.{move_message, refusal_message, end_message}
use Rattle.rbg_wire.specs.Reading.{SpellsMove}
use Rattle.rbg_wire.specs.Streams.{Item, complete, too_long}
use Rattle.rbg_rules.specs.Meaning.{AbstractGame, AbstractPlace, Legal, IsHeavyToTry}
use Rattle.rbg_match.specs.declared.config.Config.{Config}
use Rattle.rbg_match.specs.Deliveries.{Delivery, to_seat, to_each, to_others}
use Rattle.rbg_base.specs.Move.{most_pairs}
use Rattle.rbg_match.specs.Play.{AbstractPlay, mover_of, due_of, refusals_of, ended, moved, refused}
use Rattle.rbg_match.specs.PlayingOn.{PlaysOn, seats_of}

-- An input of a match: a moment of the clock alone, the end of a seat's stream, or an item that a seat's stream has
-- completed.
pub data AbstractInput : Type 0 where
  tick : AbstractInput
  gone : (seat : ℕ) → AbstractInput
  sent : (seat : ℕ) → Item → AbstractInput

-- The item is too long, or its text spells no move.
abbrev pub IsUnreadable : Item → Type 0
IsUnreadable (complete text) = (pairs : List (ℕ × ℕ)) → ¬ SpellsMove text pairs
IsUnreadable too_long = Unit {0}

-- In a match of that many seats a message of a seat is refused for this reason.
--   counted: the refusal is sent to the seat.
--   spent: the refusal is sent to the seat. Its count passes the allowed number, so the match ends with `E2`.
pub data Refuses (seats : ℕ) (config : Config) (play : AbstractPlay) (seat : ℕ) (reason : Reason) :
    (after : AbstractPlay) → (outgoing : List Delivery) → Type 0 where
  counted :
      refusals_of play seat < config.refusals →
      Refuses seats config play seat reason (refused play seat) (to_seat seat (refusal_message reason))
  spent :
      config.refusals ≤ refusals_of play seat →
      Refuses seats config play seat reason
      (ended (refused play seat) (Refusals seat))
      (to_seat seat (refusal_message reason) ++ to_each seats (end_message (Refusals seat)))

-- The mover asks for the move of these pairs, of which there are at most 200.
--   heavy: the question whether it is legal is above the limits. The match ends with `E4`.
--   illegal: it is not legal, so it is refused.
--   legal: it is made and sent to every seat, the mover's too, and play continues.
pub data Judges (game : AbstractGame) (config : Config) (play : AbstractPlay) (moment : ℕ) (pairs : List (ℕ × ℕ)) :
    (after : AbstractPlay) → (outgoing : List Delivery) → Type 0 where
  heavy :
      IsHeavyToTry game play.place pairs →
      Judges game config play moment pairs (ended play Heavy) (to_each (seats_of game) (end_message Heavy))
  illegal : {after : AbstractPlay} {told : List Delivery} →
      ((to : AbstractPlace) → ¬ Legal game play.place pairs to) →
      Refuses (seats_of game) config play (mover_of play) NotLegal after told →
      Judges game config play moment pairs after told
  legal : {to : AbstractPlace} {after : AbstractPlay} {more : List Delivery} →
      Legal game play.place pairs to →
      PlaysOn game moment 0 (moved play moment pairs to) after more →
      Judges game config play moment pairs after (to_each (seats_of game) (move_message pairs) ++ more)

-- A match that has not ended handles an input that arrived before the due moment.
--   nothing: a moment alone changes nothing.
--   leaving: a seat's stream has ended. The match ends with `E3`, which is sent to every other seat.
--   out_of_turn: an item of a seat that is not the mover's is refused.
--   unreadable: an item of the mover that is no move is refused.
--   too_many: a move of more than 200 pairs is refused.
--   judged: another move of the mover is judged.
pub data HandlesInTime (game : AbstractGame) (config : Config) (play : AbstractPlay) (moment : ℕ) :
    AbstractInput → (after : AbstractPlay) → (outgoing : List Delivery) → Type 0 where
  nothing :
      HandlesInTime game config play moment tick play []
  leaving : {seat : ℕ} →
      HandlesInTime game config play moment (gone seat)
      (ended play (Gone seat))
      (to_others (seats_of game) seat (end_message (Gone seat)))
  out_of_turn : {seat : ℕ} {item : Item} {after : AbstractPlay} {told : List Delivery} →
      seat ≢ mover_of play →
      Refuses (seats_of game) config play seat OutOfTurn after told →
      HandlesInTime game config play moment (sent seat item) after told
  unreadable : {seat : ℕ} {item : Item} {after : AbstractPlay} {told : List Delivery} →
      seat ≡ mover_of play →
      IsUnreadable item →
      Refuses (seats_of game) config play seat Unreadable after told →
      HandlesInTime game config play moment (sent seat item) after told
  too_many : {seat : ℕ} {text : List ℕ} {pairs : List (ℕ × ℕ)} {after : AbstractPlay} {told : List Delivery} →
      seat ≡ mover_of play →
      SpellsMove text pairs →
      most_pairs < length pairs →
      Refuses (seats_of game) config play seat MoveTooLong after told →
      HandlesInTime game config play moment (sent seat (complete text)) after told
  judged : {seat : ℕ} {text : List ℕ} {pairs : List (ℕ × ℕ)} {after : AbstractPlay} {told : List Delivery} →
      seat ≡ mover_of play →
      SpellsMove text pairs →
      length pairs ≤ most_pairs →
      Judges game config play moment pairs after told →
      HandlesInTime game config play moment (sent seat (complete text)) after told

-- A match handles an input at a moment.
--   after_end: a match that has ended does nothing.
--   overdue: at the due moment or later, whatever the input is, the mover's time is over. The match ends with `E1`.
--   in_time: before the due moment the input decides.
pub data Handles (game : AbstractGame) (config : Config) (play : AbstractPlay) (moment : ℕ) (input : AbstractInput) :
    (after : AbstractPlay) → (outgoing : List Delivery) → Type 0 where
  after_end : {outcome : Outcome} →
      play.outcome ≡ Some outcome →
      Handles game config play moment input play []
  overdue :
      play.outcome ≡ None →
      due_of config play ≤ moment →
      Handles game config play moment input
      (ended play (Time (mover_of play)))
      (to_each (seats_of game) (end_message (Time (mover_of play))))
  in_time : {after : AbstractPlay} {told : List Delivery} →
      play.outcome ≡ None →
      moment < due_of config play →
      HandlesInTime game config play moment input after told →
      Handles game config play moment input after told
