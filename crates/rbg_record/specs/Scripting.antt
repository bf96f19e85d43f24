-- The script of a record: its config, and the events that lead to the record's moves and its end.
use Rattle.std.specs.Prelude.{◌≡◌, ℕ, zero, suc, List, [], ◌∷◌, ◌++◌, All, Option, Some, None}
use Rattle.std.specs.List.{flat_map, AllZip}
use Rattle.rbg_wire.specs.declared.outcome.Outcome.{Outcome}
use Rattle.rbg_wire.specs.declared.outcome.Outcome.TheVariants.{Finished, Time, Refusals, Gone, Heavy}
use Rattle.rbg_wire.specs.Lines.{lines_of}
use Rattle.rbg_wire.specs.Messages.{move_message, spelling}
use Rattle.rbg_record.specs.declared.entry.Entry.{Entry}
use Rattle.rbg_record.specs.declared.entry.Entry.TheVariants.{Move, End}
use Rattle.rbg_record.specs.declared.entry.Timed.{Timed}
use Rattle.rbg_record.specs.declared.heading.Start.{Start}
use Rattle.rbg_record.specs.declared.heading.Version.{Version}
use Rattle.rbg_record.specs.declared.heading.Version.TheVariants.{One, Two}
use Rattle.rbg_record.specs.declared.next.Next.{Next}
use Rattle.rbg_record.specs.declared.next.Next.TheVariants as nexts
use Rattle.rbg_record.specs.Entries.{SpellsIn}
use Rattle.rbg_record.specs.Heading.{version_text, SpellsPlayers, SpellsStart}
use Rattle.rbg_record.specs.NextLine.{HasFormFault}
use Rattle.rbg_record.specs.Reading as reading
use Rattle.rbg_record.specs.Right.{turn_config}
use Rattle.rbg_match.specs.Config.{IsWithinLimits}
use Rattle.rbg_script.specs.declared.config.ScriptConfig.{ScriptConfig}
use Rattle.rbg_script.specs.Events.{AbstractEvent, piece, end_of_stream, moment_alone}
use Rattle.rbg_script.specs.Scripts.{SpellsScript}

-- A player sends its move at the move's moment. The keeper moves by itself.
abbrev pub move_events : (at player : ℕ) → (pairs : List (ℕ × ℕ)) → List AbstractEvent
move_events at zero pairs = []
move_events at (suc before) pairs = piece (suc before) at (spelling (move_message pairs)) ∷ []

-- The end follows from an event at its moment: the moment alone if a time is over, a message without a text if a player
-- was refused too often, the end of a stream if a player has gone. A match that is finished, or that meets a question
-- above the limits, ends by itself. One that is in play continues to the moment.
abbrev pub end_events : (at : ℕ) → Option Outcome → List AbstractEvent
end_events at None = moment_alone at ∷ []
end_events at (Some (Finished scores)) = []
end_events at (Some (Time player)) = moment_alone at ∷ []
end_events at (Some (Refusals player)) = piece player at (0 ∷ []) ∷ []
end_events at (Some (Gone player)) = end_of_stream player at ∷ []
end_events at (Some Heavy) = []

abbrev pub entry_events : (at : ℕ) → Entry → List AbstractEvent
entry_events at (Move player pairs) = move_events at player pairs
entry_events at (End outcome) = end_events at outcome

-- the events of an entry with its moment
abbrev pub events_in : Timed → List AbstractEvent
events_in told = entry_events told.at told.entry

-- the config of a match with this start; no refusal is allowed
abbrev pub config_at : (turn_ms now : ℕ) → ScriptConfig
config_at turn_ms now = record { turn_ms = turn_ms; refusals = 0; now = now }

-- The first lines of a record of a version have these texts, and the script has this config.
pub data IsHead : Version → (texts : List (List ℕ)) → ScriptConfig → Type 0 where
  head_1 : IsHead One (version_text One ∷ []) (config_at 1 0)
  head_2 : {players : List ℕ} {names : List (List ℕ)} {text : List ℕ} {start : Start} →
      SpellsPlayers players names →
      SpellsStart text start →
      IsWithinLimits (turn_config start.turn_ms) →
      IsHead Two (version_text Two ∷ players ∷ text ∷ []) (config_at start.turn_ms start.now)

-- the entry is a move
abbrev pub IsMove : Entry → Type 0
IsMove (Move player pairs) = Unit {0}
IsMove (End outcome) = ⊥

-- The bytes are a record, and the others are a script of it. The record is lines: the first ones, then moves, then an
-- end. The script has their config and their events.
pub record IsScriptOfRecord (bytes new : List ℕ) : Type 0 where
  pub version : Version
  pub head : List (List ℕ)
  pub config : ScriptConfig
  pub is_head : IsHead version head config
  pub moves : List Timed
  pub are_moves : All (λ (told : Timed). IsMove told.entry) moves
  pub at : ℕ
  pub outcome : Option Outcome
  pub lines : List (List ℕ)
  pub spelled : AllZip (SpellsIn version) lines (moves ++ record { at = at; entry = End outcome } ∷ [])
  pub is : bytes ≡ lines_of (head ++ lines)
  pub script : SpellsScript new (record {
    config = config;
    events = flat_map events_in (moves ++ record { at = at; entry = End outcome } ∷ []);
  })

-- The text is of the form that a line may have there. A start is one whose turn is within the limits.
abbrev pub HasForm : Next → (text : List ℕ) → Type 0
HasForm nexts.Start text = (start : Start) × SpellsStart text start × IsWithinLimits (turn_config start.turn_ms)
HasForm next text = reading.HasForm next text

-- A line of this text that has the form leads from one part of a record to another one.
pub data LeadsOn : Next → (text : List ℕ) → Next → Type 0 where
  version_1 : LeadsOn nexts.Version (version_text One) (nexts.Entry One)
  version_2 : LeadsOn nexts.Version (version_text Two) nexts.Players
  players : {text : List ℕ} {names : List (List ℕ)} →
      SpellsPlayers text names →
      LeadsOn nexts.Players text nexts.Start
  start : {text : List ℕ} {start : Start} →
      SpellsStart text start →
      IsWithinLimits (turn_config start.turn_ms) →
      LeadsOn nexts.Start text (nexts.Entry Two)
  move : {version : Version} {text : List ℕ} (told : Timed) →
      SpellsIn version text told →
      IsMove told.entry →
      LeadsOn (nexts.Entry version) text (nexts.Entry version)
  end : {version : Version} {text : List ℕ} (at : ℕ) (outcome : Option Outcome) →
      SpellsIn version text (record { at = at; entry = End outcome }) →
      LeadsOn (nexts.Entry version) text nexts.Nothing

-- Lines of these texts lead there from the beginning of a record.
pub data LeadThere : (texts : List (List ℕ)) → Next → Type 0 where
  none :
      LeadThere [] nexts.Version
  more : {texts : List (List ℕ)} {text : List ℕ} {from to : Next} →
      LeadThere texts from →
      LeadsOn from text to →
      LeadThere (texts ++ text ∷ []) to

-- The lines before this one are of the form, but what follows them is not.
abbrev pub IsNoRecord : (bytes : List ℕ) → (line : ℕ) → Type 0
IsNoRecord bytes line = HasFormFault LeadThere nexts.Nothing HasForm bytes line
