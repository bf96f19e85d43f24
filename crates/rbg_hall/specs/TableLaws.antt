-- Laws of a table.
use Rattle.std.specs.Prelude.{◌≡◌, ℕ, ◌+◌, ◌==◌, false, List, [], ◌∷◌, ◌++◌, Option, Some, None, is_some, slice_get, slice_set, if◌then◌else◌}
use Rattle.std.specs.List.{flat_map}
use Rattle.rbg_wire.specs.declared.message.Reason.TheVariants.{NoSeat}
use Rattle.rbg_wire.specs.Messages.{refusal_message, spelling}
use Rattle.rbg_wire.specs.Streams.{Item}
use Rattle.rbg_wire.specs.Whole.{whole_item}
use Rattle.rbg_rules.specs.Meaning.{IsNumbered, AbstractGame}
use Rattle.rbg_match.specs.declared.config.Config.{Config}
use Rattle.rbg_match.specs.Deliveries.{Delivery, bytes_for}
use Rattle.rbg_match.specs.Inputs.{counted_first}
use Rattle.rbg_script.specs.Events.{AbstractEvent, piece, end_of_stream, moment_alone}
use Rattle.rbg_match.specs.Laws.{IsHeavyEnd, keeper_pairs}
use Rattle.rbg_match.specs.Limits.{message_limit}
use Rattle.rbg_match.specs.Matches.{MatchState}
use Rattle.rbg_match.specs.Play.{AbstractPlay}
use Rattle.rbg_match.specs.Transcript.{Transcript}
use Rattle.rbg_hall.specs.Tables.{TableState, TableRun, HallOf, OwnEvent, clock, joins, arrives, says, leaves, SitsAt, HasNoSeat, IsFirstFree, AreTaken}
use Rattle.rbg_hall.specs.Tellings.{Telling, bytes_to}

-- What a match that has begun is handed of an event, where these lines have the seats.
--   ticks: the clock.
--   stirs, plays, goes: what a line with a seat sends, an item of it, its end.
--   late: a line that asks for the table. There is no seat for it, and the match hears nothing.
--   stirs_not, says_not, goes_not: nor does it hear a line without a seat.
pub data Hands (seats : List (Option ℕ)) : OwnEvent → List AbstractEvent → Type 0 where
  ticks : {at : ℕ} →
      Hands seats (clock at) (moment_alone at ∷ [])
  stirs : {line at : ℕ} →
      (index : ℕ) →
      slice_get seats index ≡ Some (Some line) →
      Hands seats (arrives line at) (moment_alone at ∷ [])
  plays : {line at : ℕ} {item : Item} →
      (index : ℕ) →
      slice_get seats index ≡ Some (Some line) →
      Hands seats (says line at item) (piece (index + 1) at (whole_item message_limit item) ∷ [])
  goes : {line at : ℕ} →
      (index : ℕ) →
      slice_get seats index ≡ Some (Some line) →
      Hands seats (leaves line at) (end_of_stream (index + 1) at ∷ [])
  late : {line at : ℕ} →
      Hands seats (joins line at) []
  stirs_not : {line at : ℕ} →
      ((index : ℕ) → ¬ (slice_get seats index ≡ Some (Some line))) →
      Hands seats (arrives line at) []
  says_not : {line at : ℕ} {item : Item} →
      ((index : ℕ) → ¬ (slice_get seats index ≡ Some (Some line))) →
      Hands seats (says line at item) []
  goes_not : {line at : ℕ} →
      ((index : ℕ) → ¬ (slice_get seats index ≡ Some (Some line))) →
      Hands seats (leaves line at) []

-- The same of events in turn.
pub data HandsEach (seats : List (Option ℕ)) : List OwnEvent → List AbstractEvent → Type 0 where
  none :
      HandsEach seats [] []
  more : {events : List OwnEvent} {event : OwnEvent} {handed next : List AbstractEvent} →
      HandsEach seats events handed →
      Hands seats event next →
      HandsEach seats (events ++ event ∷ []) (handed ++ next)

-- A line that has no seat takes the last one that is free, and then the seats are these.
pub record TakesLast (gathering : TableState) (line : ℕ) (seats : List (Option ℕ)) : Type 0 where
  pub index : ℕ
  pub has_none : HasNoSeat gathering line
  pub free : IsFirstFree gathering.seats index
  pub taken : seats ≡ slice_set gathering.seats index (Some line)
  pub full : AreTaken seats

-- what a line without a seat is told at an event of a table whose match has begun: that there is no seat for it
abbrev pub late_refusal : (line : ℕ) → OwnEvent → List ℕ
late_refusal line (clock at) = []
late_refusal line (joins other at) = if other == line then spelling (refusal_message NoSeat) else []
late_refusal line (arrives other at) = []
late_refusal line (says other at item) = []
late_refusal line (leaves other at) = []

-- Where the gathering at a table ended.
--   whole: the table heard `before`, then a line asked for it at this moment, then the table heard `after`.
--   gathers, waits: from a table where nobody sits `before` led to one that waits for its last line. Its lines were told
--   `early`.
--   takes: the line takes the last seat.
pub record Beginning (game : AbstractGame) (text : List ℕ) (config : Config) (events : List OwnEvent)
    (seats : List (Option ℕ)) : Type 0 where
  pub before : List OwnEvent
  pub line : ℕ
  pub at : ℕ
  pub after : List OwnEvent
  pub whole : events ≡ before ++ joins line at ∷ after
  pub gathering : TableState
  pub early : List Telling
  pub gathers : TableRun game text config before gathering early
  pub waits : gathering.begun ≡ None
  pub takes : TakesLast gathering line seats

-- The match that has begun, and what these lines were told.
--   hands, transcript: of what the table hears from then on the match is handed this. Where play stands, and what is
--   said, is a transcript of it.
--   of_game, of_config, begins, works: the match has this game and config, began at the moment of the beginning, and
--   hasn't failed.
--   on_seats: a line on a seat is told what the table told it before, and then what the transcript says to its seat.
--   elsewhere: a line that has no seat is told what the table told it before, and then that there is none, each time it
--   asks for one.
pub record HoldsTranscript (game : AbstractGame) (text : List ℕ) (config : Config) (events : List OwnEvent)
    (seats : List (Option ℕ)) (playing : MatchState) (told : List Telling) : Type 0 where
  pub beginning : Beginning game text config events seats
  pub handed : List AbstractEvent
  pub hands : HandsEach seats beginning.after handed
  pub outgoing : List Delivery
  pub transcript : Transcript game text config beginning.at handed playing.play outgoing
  pub of_game : playing.game ≡ game
  pub of_config : playing.config ≡ config
  pub begins : playing.began ≡ counted_first beginning.at
  pub works : playing.failed ≡ false
  pub on_seats : (index one : ℕ) →
      slice_get seats index ≡ Some (Some one) →
      bytes_to one told ≡ bytes_to one beginning.early ++ bytes_for (index + 1) outgoing
  pub elsewhere : (one : ℕ) →
      ((index : ℕ) → ¬ (slice_get seats index ≡ Some (Some one))) →
      bytes_to one told ≡ bytes_to one beginning.early ++ flat_map (late_refusal one) beginning.after

-- Whatever a table hears, it holds a transcript of its match once that has begun, and each line is told accordingly.
abbrev pub RunHoldsTranscript : Type 0
RunHoldsTranscript =
    (game : AbstractGame) (text : List ℕ) (config : Config) (events : List OwnEvent) (told : List Telling) →
    (hall : HallOf game text config events told) (playing : MatchState) →
    hall.state.begun ≡ Some playing →
    HoldsTranscript game text config events hall.state.seats playing told

-- Whatever a table hears, no line has two seats.
abbrev pub LinesHaveOneSeat : Type 0
LinesHaveOneSeat =
    (game : AbstractGame) (text : List ℕ) (config : Config) (events : List OwnEvent) (told : List Telling) →
    (hall : HallOf game text config events told) (line first second : ℕ) →
    SitsAt hall.state line first →
    SitsAt hall.state line second →
    first ≡ second

-- The keeper's moves have the same pairs in both matches, and neither has ended because a question is above the limits.
pub record ChooseAlike (one other : AbstractPlay) : Type 0 where
  pub light : ¬ IsHeavyEnd one
  pub other_light : ¬ IsHeavyEnd other
  pub keeper : keeper_pairs one.made ≡ keeper_pairs other.made

-- What a table hears decides whether its match has begun and what each line is told, but for the keeper's moves and for
-- an end because a question is above the limits.
abbrev pub OneTable : Type 0
OneTable =
    (game : AbstractGame) (text : List ℕ) (config : Config) (events : List OwnEvent) (told others : List Telling) →
    IsNumbered game.rules →
    (one : HallOf game text config events told) →
    (other : HallOf game text config events others) →
    ((playing playing' : MatchState) →
    one.state.begun ≡ Some playing → other.state.begun ≡ Some playing' → ChooseAlike playing.play playing'.play) →
    (is_some one.state.begun ≡ is_some other.state.begun)
    × ((line : ℕ) → bytes_to line told ≡ bytes_to line others)
