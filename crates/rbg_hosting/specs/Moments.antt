-- From which moment the matches of a hall go on, and by which clock.
use Rattle.std.specs.Prelude.{◌≡◌, ◌≤◌, ℕ, List, ◌++◌, Some, None, length, map}
use Rattle.rbg_script.specs.Events.{AbstractEvent, piece, end_of_stream, moment_alone}
use Rattle.rbg_hall.specs.Halls.{AbstractTable, HallState, begun_at}
use Rattle.rbg_hall.specs.Serving.{hall_event}
use Rattle.rbg_hall.specs.Tables.{TableState}
use Rattle.rbg_hall.specs.Wholes.{HasRun}
use Rattle.rbg_match.specs.Matches.{MatchState}
use Rattle.rbg_serving.specs.Clocks.{later_by}
use Rattle.rbg_serving.specs.Heard.{Heard, IsTimed, event_of}

-- The match of this number is in play: it has begun and has not ended. This is its last moment.
pub record IsInPlay (tables : List TableState) (number moment : ℕ) : Type 0 where
  pub playing : MatchState
  pub begun : begun_at tables number ≡ Some playing
  pub in_play : playing.play.outcome ≡ None
  pub last : moment ≡ playing.streams.moment

-- The moment from which the first so many matches go on, where the tables stand so.
--   none: 0, if none of them is in play.
--   first: the first of the last moments of those in play. So each mover has its time since then again, and nobody less.
pub data IsSince (tables : List TableState) (matches : ℕ) : ℕ → Type 0 where
  none : ((number moment : ℕ) → number ≤ matches → ¬ IsInPlay tables number moment)
      → IsSince tables matches 0
  first : (number since : ℕ)
      → number ≤ matches
      → IsInPlay tables number since
      → ((other moment : ℕ) → other ≤ matches → IsInPlay tables other moment → since ≤ moment)
      → IsSince tables matches since

-- an event that comes later by so much
abbrev pub later_event : (since : ℕ) → AbstractEvent → AbstractEvent
later_event since (piece seat at bytes) = piece seat (later_by since at) bytes
later_event since (end_of_stream seat at) = end_of_stream seat (later_by since at)
later_event since (moment_alone at) = moment_alone (later_by since at)

-- what a hall hears that goes on from a moment, where a call hears this
abbrev pub events_since : (since : ℕ) → List Heard → List AbstractEvent
events_since since heard = map (λ one. hall_event (later_event since (event_of one))) heard

-- These events are what was heard first at the readings of a clock, each later by so much.
pub record AreHeardSince {C : Type 0} (told : C → List ℕ → Type 0) (since : ℕ) (events : List AbstractEvent) : Type 0 where
  pub clock : C
  pub readings : List ℕ
  pub tells : told clock readings
  pub handled : List Heard
  pub left : List Heard
  pub timed : IsTimed readings (handled ++ left)
  pub are : events ≡ events_since since handled

-- A hall with these tables goes on after a past: it heard these events later, from the moment on from which its matches go on
-- as the past left them.
pub record GoesOnAfter {C : Type 0} (told : C → List ℕ → Type 0) (tables : List AbstractTable)
    (past later : List AbstractEvent) : Type 0 where
  pub stood : HallState
  pub queues : List (List ℕ)
  pub run : HasRun tables past stood queues
  pub since : ℕ
  pub from : IsSince stood.tables (length tables) since
  pub heard : AreHeardSince told since later

-- What a hall with these tables hears that hears a past first.
--   all: all of it, and then others, by a clock.
--   part: a front part of it, and it is served no more.
pub data HearsPast {C : Type 0} (told : C → List ℕ → Type 0) (tables : List AbstractTable) (past : List AbstractEvent) :
    (events : List AbstractEvent) → Type 0 where
  all : (later : List AbstractEvent)
      → GoesOnAfter told tables past later
      → HearsPast told tables past (past ++ later)
  part : (heard left : List AbstractEvent)
      → past ≡ heard ++ left
      → HearsPast told tables past heard
