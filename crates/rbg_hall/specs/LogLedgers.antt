-- A table, and the log of its match.
use Rattle.std.specs.Prelude.{◌≡◌, ℕ, Bool, true, false, List, [], ◌∷◌, Option, Some, None, slice_get}
use Rattle.rbg_game.specs.Loading.{Loads}
use Rattle.rbg_rules.specs.Meaning.{AbstractGame}
use Rattle.rbg_match.specs.declared.config.Config.{Config}
use Rattle.rbg_script.specs.Events.{AbstractEvent}
use Rattle.rbg_match.specs.Matches.{MatchState}
use Rattle.rbg_hall.specs.TableLaws.{Hands}
use Rattle.rbg_hall.specs.Tables.{TableState, OwnEvent, new_table, clock, joins, arrives, says, leaves}
use Rattle.rbg_serving.specs.Logs.{IsLog, Logs, first_line}
use Rattle.rbg_serving.specs.Written.{written}

-- the moment at which a table hears an event
abbrev pub heard_at : OwnEvent → ℕ
heard_at (clock at) = at
heard_at (joins line at) = at
heard_at (arrives line at) = at
heard_at (says line at item) = at
heard_at (leaves line at) = at

-- what is written of an event that is handed to a match, if one has begun
abbrev pub written_for : Option MatchState → AbstractEvent → List AbstractEvent
written_for None event = []
written_for (Some playing) event = written playing event

-- It is appended.
abbrev pub WritesFor : {W : Type 0} → (told : W → List ℕ → Type 0) → (old new : W) → Option MatchState → AbstractEvent → Type 0
WritesFor told old new begun event = Logs told old new (written_for begun event)

-- These events are written when a table hears an event: what is written of the one that its match is handed, or nothing.
pub data IsNoted (table : TableState) (event : OwnEvent) : List AbstractEvent → Type 0 where
  handed : (one : AbstractEvent) → Hands table.seats event (one ∷ []) → IsNoted table event (written_for table.begun one)
  nothing : Hands table.seats event [] → IsNoted table event []

-- They are appended.
pub record IsNotedIn {W : Type 0} (told : W → List ℕ → Type 0) (old new : W) (table : TableState) (event : OwnEvent) : Type 0 where
  pub lines : List AbstractEvent
  pub noted : IsNoted table event lines
  pub logs : Logs told old new lines

-- the first line of the log, if the table waited and its match has begun at this moment
abbrev pub first_for : (waited : Bool) → Option MatchState → Config → (at : ℕ) → List ℕ
first_for true (Some playing) config at = first_line config at
first_for true None config at = []
first_for false begun config at = []

-- A table where nobody sits, whose text is that of its game.
pub record IsNewTable (table : TableState) : Type 0 where
  pub is : table ≡ new_table table.game table.text table.config
  pub loads : Loads table.text table.game

-- A log of a match of this text that stands here. The match of the log's script stands there too, and in it the seats are
-- sent what is said.
pub record IsLogged {W : Type 0} (told : W → List ℕ → Type 0) (log : W) (text : List ℕ) (playing : MatchState) : Type 0 where
  pub held : List ℕ
  pub outgoing : List (List ℕ)
  pub tells : told log held
  pub is : IsLog text held playing outgoing

-- The log of a match that has begun is such a one, and that of another one is empty.
abbrev pub IsLoggedSo : {W : Type 0} → (told : W → List ℕ → Type 0) → (log : W) → (text : List ℕ) → AbstractGame → Option MatchState → Type 0
IsLoggedSo told log text game None = Loads text game × told log []
IsLoggedSo told log text game (Some playing) = IsLogged told log text playing

-- A table has the log of its match, and no line has two seats.
pub record HasLog {W : Type 0} (told : W → List ℕ → Type 0) (table : TableState) (log : W) : Type 0 where
  pub differ : (line first second : ℕ) → slice_get table.seats first ≡ Some (Some line) → slice_get table.seats second ≡ Some (Some line) → first ≡ second
  pub logged : IsLoggedSo told log table.text table.game table.begun
