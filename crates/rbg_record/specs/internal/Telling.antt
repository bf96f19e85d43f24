-- What was written of a record into its script so far.
use Rattle.std.specs.Prelude.{◌≡◌, ℕ, List, [], ◌∷◌, ◌++◌, All, Option}
use Rattle.std.specs.List.{flat_map, AllZip}
use Rattle.rbg_wire.specs.declared.outcome.Outcome.{Outcome}
use Rattle.rbg_wire.specs.Bytes.{LacksByte}
use Rattle.rbg_wire.specs.Lines.{line_feed, line_of, lines_of}
use Rattle.rbg_record.specs.declared.entry.Entry.TheVariants.{End}
use Rattle.rbg_record.specs.declared.entry.Timed.{Timed}
use Rattle.rbg_record.specs.declared.heading.Version.{Version}
use Rattle.rbg_record.specs.declared.heading.Version.TheVariants.{Two}
use Rattle.rbg_record.specs.declared.line.RecordLine.{RecordLine}
use Rattle.rbg_record.specs.declared.next.Next.{Next}
use Rattle.rbg_record.specs.declared.next.Next.TheVariants as nexts
use Rattle.rbg_record.specs.Entries.{SpellsIn}
use Rattle.rbg_record.specs.Heading.{version_text, SpellsPlayers}
use Rattle.rbg_script.specs.declared.config.ScriptConfig.{ScriptConfig}
use Rattle.rbg_script.specs.Config.{ConfigHasSpelling, config_text}
use Rattle.rbg_script.specs.Events.{SpellsEvent, AbstractEvent}
use Rattle.rbg_record.specs.declared.script_error.ScriptingError.{ScriptingError}
use Rattle.rbg_record.specs.declared.script_error.ScriptingError.TheVariants.{Form, Memory}
use Rattle.rbg_record.specs.Scripting.{HasForm, IsHead, IsMove, IsNoRecord, LeadsOn, LeadThere, events_in}

-- Lines are appended that spell these events.
pub record AppendsEvents (events : List AbstractEvent) (old new : List ℕ) : Type 0 where
  pub lines : List (List ℕ)
  pub is : new ≡ old ++ lines_of lines
  pub spelled : AllZip SpellsEvent lines events
  pub whole : All (LacksByte line_feed) lines

-- The texts are the first lines of a record and these entries, and this was written of them.
pub record WritesEntries (version : Version) (entries : List Timed) (texts : List (List ℕ)) (out : List ℕ) : Type 0 where
  pub head : List (List ℕ)
  pub config : ScriptConfig
  pub is_head : IsHead version head config
  pub has : ConfigHasSpelling config
  pub lines : List (List ℕ)
  pub spelled : AllZip (SpellsIn version) lines entries
  pub are : texts ≡ head ++ lines
  pub events : AppendsEvents (flat_map events_in entries) (line_of (config_text config)) out

pub record TellsPlayers (texts : List (List ℕ)) (out : List ℕ) : Type 0 where
  pub players : List ℕ
  pub names : List (List ℕ)
  pub spelled : SpellsPlayers players names
  pub are : texts ≡ version_text Two ∷ players ∷ []
  pub nothing : out ≡ []

pub record TellsMoves (version : Version) (texts : List (List ℕ)) (out : List ℕ) : Type 0 where
  pub moves : List Timed
  pub are_moves : All (λ (told : Timed). IsMove told.entry) moves
  pub tells : WritesEntries version moves texts out

pub record TellsWhole (texts : List (List ℕ)) (out : List ℕ) : Type 0 where
  pub version : Version
  pub moves : List Timed
  pub are_moves : All (λ (told : Timed). IsMove told.entry) moves
  pub at : ℕ
  pub outcome : Option Outcome
  pub tells : WritesEntries version (moves ++ record { at = at; entry = End outcome } ∷ []) texts out

-- what was written of the lines up to that part
abbrev pub IsWritten : Next → (texts : List (List ℕ)) → (out : List ℕ) → Type 0
IsWritten nexts.Version texts out = (texts ≡ []) × (out ≡ [])
IsWritten nexts.Players texts out = (texts ≡ version_text Two ∷ []) × (out ≡ [])
IsWritten nexts.Start texts out = TellsPlayers texts out
IsWritten (nexts.Entry version) texts out = TellsMoves version texts out
IsWritten nexts.Nothing texts out = TellsWhole texts out

-- A line is accepted, and what was written of it is right.
pub record WritesNext (from : Next) (text : List ℕ) (to : Next) (old new : List ℕ) : Type 0 where
  pub leads : LeadsOn from text to
  pub told : (texts : List (List ℕ)) → IsWritten from texts old → IsWritten to (texts ++ text ∷ []) new

-- Lines of these texts were written into the script: this comes next, and this was written of them.
abbrev pub AreWritten : (texts : List (List ℕ)) → Next × List ℕ → Type 0
AreWritten texts so_far = LeadThere texts so_far.0 × IsWritten so_far.0 texts so_far.1

-- why nothing is written of a line: it isn't of the form, or memory ran out
abbrev pub RefusesLine : Next → RecordLine → ScriptingError → Type 0
RefusesLine next line (Form number) = (number ≡ line.number) × ¬ HasForm next line.text.now
RefusesLine next line Memory = Unit {0}

-- why there is no script of a record
abbrev pub IsRefusal : (bytes : List ℕ) → ScriptingError → Type 0
IsRefusal bytes (Form line) = IsNoRecord bytes line
IsRefusal bytes Memory = Unit {0}
