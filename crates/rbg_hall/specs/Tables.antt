-- A table: its seats, and its match once all of them are taken.
use Rattle.std.specs.Prelude.{◌≡◌, ℕ, ◌+◌, ◌<◌, List, [], ◌∷◌, ◌++◌, Option, Some, None, replicate, slice_set, slice_get}
use Rattle.rbg_wire.specs.declared.message.Reason.TheVariants.{OutOfTurn, NoSeat}
use Rattle.rbg_wire.specs.Streams.{Item}
use Rattle.rbg_wire.specs.Whole.{whole_item}
use Rattle.rbg_rules.specs.Meaning.{AbstractGame}
use Rattle.rbg_match.specs.declared.config.Config.{Config}
use Rattle.rbg_script.specs.Events.{AbstractEvent, piece, end_of_stream, moment_alone}
use Rattle.rbg_match.specs.Limits.{message_limit}
use Rattle.rbg_match.specs.Matches.{MatchState, Opens, Steps}
use Rattle.rbg_match.specs.PlayingOn.{seats_of}
use Rattle.rbg_hall.specs.Tellings.{Telling, refusal_to, to_lines}

-- A table: its game and text, the config of its match, the line on each seat (seat 1 first), and its match once it has
-- begun.
pub record TableState : Type 0 where
  pub game : AbstractGame
  pub text : List ℕ
  pub config : Config
  pub seats : List (Option ℕ)
  pub begun : Option MatchState

-- a table where nobody sits
abbrev pub new_table : AbstractGame → (text : List ℕ) → Config → TableState
new_table game text config =
    record { game = game; text = text; config = config; seats = replicate (seats_of game) None; begun = None }

-- What a table hears, each at a moment.
--   clock: the clock shows the moment.
--   joins: the first item of a line asks for this table.
--   arrives: a piece of a line that asked for this table has come.
--   says: such a line has completed an item after its first one.
--   leaves: such a line has ended.
pub data OwnEvent : Type 0 where
  clock : (at : ℕ) → OwnEvent
  joins : (line at : ℕ) → OwnEvent
  arrives : (line at : ℕ) → OwnEvent
  says : (line at : ℕ) (item : Item) → OwnEvent
  leaves : (line at : ℕ) → OwnEvent

-- The line has the seat at this index. Indexes begin with 0, so it is the seat of the next number.
abbrev pub SitsAt : TableState → (line index : ℕ) → Type 0
SitsAt table line index = slice_get table.seats index ≡ Some (Some line)

-- the line has a seat
pub record HasSeat (table : TableState) (line : ℕ) : Type 0 where
  pub index : ℕ
  pub sits : SitsAt table line index

-- the line has no seat
abbrev pub HasNoSeat : TableState → (line : ℕ) → Type 0
HasNoSeat table line = (index : ℕ) → ¬ SitsAt table line index

-- the seat at this index is the first one that is free
pub record IsFirstFree (seats : List (Option ℕ)) (index : ℕ) : Type 0 where
  pub free : slice_get seats index ≡ Some None
  pub first : (other : ℕ) → other < index → ¬ (slice_get seats other ≡ Some None)

-- no seat is free
abbrev pub AreTaken : List (Option ℕ) → Type 0
AreTaken seats = (index : ℕ) → ¬ (slice_get seats index ≡ Some None)

-- The match of a table handles an event. What it says to its seats, of which none had anything, goes to the lines on
-- them.
pub record Plays (old : TableState) (event : AbstractEvent) (new : TableState) (told : List Telling) : Type 0 where
  pub before : MatchState
  pub after : MatchState
  pub queues : List (List ℕ)
  pub begun : old.begun ≡ Some before
  pub steps : Steps before event after (replicate (seats_of old.game) []) queues
  pub is : new ≡ record old { begun = Some after }
  pub to : told ≡ to_lines old.seats queues

-- A table hears an event, and these bytes are queued for its lines.
--   waits, ticks: the clock is heard by a match that has begun, and by no other.
--   sits: a line without a seat gets the first free one, and another one is still free.
--   begins: it gets the last free seat, so the match begins, at the moment of this event.
--   is_full: no seat is free, so it is told that there is none.
--   comes_late: the match has begun, so it is told that there is no seat.
--   stays: a line that has a seat keeps it, and gets no other one.
--   waits_too, stirs: what a line with a seat sends is a moment for a match that has begun.
--   is_early: before the match begins an item of a line with a seat is refused. No match counts it.
--   plays: an item of a line with a seat is handed to the match as a piece of its own.
--   frees: the end of a line frees its seat, before the match begins.
--   goes: afterwards it is the end of the seat's stream.
--   is_moment_for_none, is_unheard, goes_unheard: a line without a seat is not heard.
pub data Hears (old : TableState) : OwnEvent → (new : TableState) → (told : List Telling) → Type 0 where
  waits : {at : ℕ} →
      old.begun ≡ None →
      Hears old (clock at) old []
  ticks : {at : ℕ} {new : TableState} {told : List Telling} →
      Plays old (moment_alone at) new told →
      Hears old (clock at) new told
  sits : {line at : ℕ} →
      (index other : ℕ) →
      old.begun ≡ None →
      HasNoSeat old line →
      IsFirstFree old.seats index →
      slice_get (slice_set old.seats index (Some line)) other ≡ Some None →
      Hears old (joins line at) (record old { seats = slice_set old.seats index (Some line) }) []
  begins : {line at : ℕ} {opened : MatchState} {queues : List (List ℕ)} →
      (index : ℕ) →
      old.begun ≡ None →
      HasNoSeat old line →
      IsFirstFree old.seats index →
      AreTaken (slice_set old.seats index (Some line)) →
      Opens old.game old.text old.config at opened queues →
      Hears old (joins line at)
      (record old { seats = slice_set old.seats index (Some line); begun = Some opened })
      (to_lines (slice_set old.seats index (Some line)) queues)
  is_full : {line at : ℕ} →
      HasNoSeat old line →
      AreTaken old.seats →
      Hears old (joins line at) old (refusal_to line NoSeat)
  comes_late : {line at : ℕ} {playing : MatchState} →
      HasNoSeat old line →
      old.begun ≡ Some playing →
      Hears old (joins line at) old (refusal_to line NoSeat)
  stays : {line at : ℕ} →
      HasSeat old line →
      Hears old (joins line at) old []
  waits_too : {line at : ℕ} →
      old.begun ≡ None →
      Hears old (arrives line at) old []
  stirs : {line at : ℕ} {new : TableState} {told : List Telling} →
      (index : ℕ) →
      SitsAt old line index →
      Plays old (moment_alone at) new told →
      Hears old (arrives line at) new told
  is_early : {line at : ℕ} {item : Item} →
      (index : ℕ) →
      SitsAt old line index →
      old.begun ≡ None →
      Hears old (says line at item) old (refusal_to line OutOfTurn)
  plays : {line at : ℕ} {item : Item} {new : TableState} {told : List Telling} →
      (index : ℕ) →
      SitsAt old line index →
      Plays old (piece (index + 1) at (whole_item message_limit item)) new told →
      Hears old (says line at item) new told
  frees : {line at : ℕ} →
      (index : ℕ) →
      SitsAt old line index →
      old.begun ≡ None →
      Hears old (leaves line at) (record old { seats = slice_set old.seats index None }) []
  goes : {line at : ℕ} {new : TableState} {told : List Telling} →
      (index : ℕ) →
      SitsAt old line index →
      Plays old (end_of_stream (index + 1) at) new told →
      Hears old (leaves line at) new told
  is_moment_for_none : {line at : ℕ} →
      HasNoSeat old line →
      Hears old (arrives line at) old []
  is_unheard : {line at : ℕ} {item : Item} →
      HasNoSeat old line →
      Hears old (says line at item) old []
  goes_unheard : {line at : ℕ} →
      HasNoSeat old line →
      Hears old (leaves line at) old []

-- From a table where nobody sits these events in turn lead to a state of it, and these bytes are queued for its lines.
pub data TableRun (game : AbstractGame) (text : List ℕ) (config : Config) :
    List OwnEvent → TableState → (told : List Telling) → Type 0 where
  none :
      TableRun game text config [] (new_table game text config) []
  more : {events : List OwnEvent} {event : OwnEvent} {middle new : TableState} {first next : List Telling} →
      TableRun game text config events middle first →
      Hears middle event new next →
      TableRun game text config (events ++ event ∷ []) new (first ++ next)

-- What the match of a table may tell its lines, given what the table alone hears.
pub record HallOf (game : AbstractGame) (text : List ℕ) (config : Config) (events : List OwnEvent)
    (told : List Telling) : Type 0 where
  pub state : TableState
  pub runs : TableRun game text config events state told
