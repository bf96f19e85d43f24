-- What the log of a match holds.
use Rattle.std.specs.Prelude.{◌≡◌, ◌≤◌, ℕ, List, ◌++◌, All, map, take}
use Rattle.rbg_match.specs.declared.config.Config.{Config}
use Rattle.rbg_match.specs.Limits.{latest_moment}
use Rattle.rbg_match.specs.Matches.{MatchState, StepsAll}
use Rattle.rbg_referee.specs.Refereed.{OpensText}
use Rattle.rbg_referee.specs.Matches.{IsScriptRefereed}
use Rattle.rbg_referee.specs.Scripts.{config_for}
use Rattle.rbg_script.specs.Config.{config_text}
use Rattle.rbg_script.specs.Events.{EventHasSpelling, event_text, AbstractEvent}
use Rattle.rbg_script.specs.Scripts.{AbstractScript, ScriptHasSpelling, SpellsScript, script_text}
use Rattle.rbg_wire.specs.Lines.{line_of, lines_of}
use Rattle.rbg_serving.specs.Written.{Replays}

-- the line of an event
abbrev pub event_line : AbstractEvent → List ℕ
event_line event = line_of (event_text event)

-- the lines of these events
abbrev pub event_lines : List AbstractEvent → List ℕ
event_lines events = lines_of (map event_text events)

-- the first line: how the match begins
abbrev pub first_line : Config → (now : ℕ) → List ℕ
first_line config now =
    line_of (config_text (record { turn_ms = config.turn_ms; refusals = config.refusals; now = now }))

-- Whatever the log held, it holds these bytes after it.
abbrev pub Appends : {W : Type 0} → (told : W → List ℕ → Type 0) → (old new : W) → (bytes : List ℕ) → Type 0
Appends told old new bytes = (held : List ℕ) → told old held → told new (held ++ bytes)

-- Whatever the log held, it holds a front part of these bytes after it.
pub record AppendsFront {W : Type 0} (told : W → List ℕ → Type 0) (old new : W) (bytes : List ℕ) : Type 0 where
  pub count : ℕ
  pub part : Appends told old new (take count bytes)

-- The lines of these events are appended, and each event has a spelling.
pub record Logs {W : Type 0} (told : W → List ℕ → Type 0) (old new : W) (events : List AbstractEvent) : Type 0 where
  pub lines : Appends told old new (event_lines events)
  pub spelled : All EventHasSpelling events

-- No more than a front part of their lines is appended.
abbrev pub LogsPart : {W : Type 0} → (told : W → List ℕ → Type 0) → (old new : W) → (events : List AbstractEvent) → Type 0
LogsPart told old new events = AppendsFront told old new (event_lines events)

-- The log of a match of this text that stands here, with these bytes queued. The log is the text of a script, and in the
-- match of that script each seat is sent the bytes that are queued for it. It stands where this match stands.
pub record IsLog (text held : List ℕ) (state : MatchState) (queued : List (List ℕ)) : Type 0 where
  pub script : AbstractScript
  pub spelled : ScriptHasSpelling script
  pub is : held ≡ script_text script
  pub spells : SpellsScript held script
  pub refereed : IsScriptRefereed text script queued
  pub opened : MatchState
  pub greeted : List (List ℕ)
  pub opens : OpensText text (config_for script.config) script.config.now opened greeted
  pub replayed : MatchState
  pub steps : StepsAll opened greeted script.events replayed queued
  pub replays : Replays replayed state
  pub counted : state.streams.moment ≤ latest_moment
