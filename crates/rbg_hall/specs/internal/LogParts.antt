-- What is always so of a table and its log, and of what is written in parts.
use Rattle.std.specs.Prelude.{◌≡◌, ℕ, List, Option, Some, None, slice_get}
use Rattle.rbg_game.specs.Loading.{Loads}
use Rattle.rbg_script.specs.Events.{AbstractEvent}
use Rattle.rbg_match.specs.Matches.{MatchState}
use Rattle.rbg_hall.specs.Tables.{TableState, OwnEvent}
use Rattle.rbg_serving.specs.declared.keeping.WriteError.{WriteError}
use Rattle.rbg_serving.specs.declared.keeping.WriteError.TheVariants.{Memory, Log}
use Rattle.rbg_serving.specs.Logs.{LogsPart}
use Rattle.rbg_hall.specs.Kept.{IsCutOff, IsWhole}
use Rattle.rbg_hall.specs.LogLedgers.{HasLog, IsNoted, written_for}

-- No line has two seats, and until the match begins the text is that of its game.
pub record HasNoLog (table : TableState) : Type 0 where
  pub differ : (line first second : ℕ) → slice_get table.seats first ≡ Some (Some line) → slice_get table.seats second ≡ Some (Some line) → first ≡ second
  pub loads : table.begun ≡ None → Loads table.text table.game

-- A table has the log of its match, or no log.
abbrev pub IsKept : {W : Type 0} → (told : W → List ℕ → Type 0) → TableState → Option W → Type 0
IsKept told table None = HasNoLog table
IsKept told table (Some log) = HasLog told table log

-- No more than a front part is appended of what is written of an event, if a match has begun.
abbrev pub WritesPart : {W : Type 0} → (told : W → List ℕ → Type 0) → (old new : W) → Option MatchState → AbstractEvent → Type 0
WritesPart told old new begun event = LogsPart told old new (written_for begun event)

-- No more than a front part is written of what a match is handed.
pub record IsNotedPart {W : Type 0} (told : W → List ℕ → Type 0) (old new : W) (table : TableState) (event : OwnEvent) : Type 0 where
  pub lines : List AbstractEvent
  pub noted : IsNoted table event lines
  pub part : LogsPart told old new lines

-- What a failure for this reason leaves in a log that is there.
abbrev pub LeavesIn : {W : Type 0} → (told : W → List ℕ → Type 0) → (old new : W) → TableState → OwnEvent → WriteError → Type 0
LeavesIn told old new table event Memory = IsWhole told old table event new
LeavesIn told old new table event Log = IsCutOff told old new table event
