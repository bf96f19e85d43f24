-- Scripts: a config and events, each on a line.
use Rattle.std.specs.Prelude.{ℕ, ◌+◌, List, [], ◌∷◌, ◌++◌, length, map, All}
use Rattle.std.specs.List.{AllZip}
use Rattle.rbg_wire.specs.Lines.{lines_of}
use Rattle.rbg_script.specs.declared.config.ScriptConfig.{ScriptConfig}
use Rattle.rbg_script.specs.declared.error.ScriptError.{ScriptError}
use Rattle.rbg_script.specs.declared.error.ScriptError.TheVariants.{Line, Memory}
use Rattle.rbg_script.specs.declared.script.Script.{Script}
use Rattle.rbg_script.specs.Config.{ConfigHasSpelling, SpellsConfig, config_text}
use Rattle.rbg_script.specs.Events.{AbstractEvent, owned_event_of, EventHasSpelling, SpellsEvent, event_text}
use Rattle.rbg_script.specs.Lines.{HasLines}

-- a script, apart from where the bytes of its pieces are in memory
pub record AbstractScript : Type 0 where
  pub config : ScriptConfig
  pub events : List AbstractEvent

abbrev pub script_of : Script → AbstractScript
script_of script = record { config = script.config; events = map owned_event_of script.events.items }

-- The text is that of the script: its first line spells the config, and the others spell the events in order.
pub record SpellsScript (text : List ℕ) (script : AbstractScript) : Type 0 where
  pub first : List ℕ
  pub others : List (List ℕ)
  pub lines : HasLines text (first ∷ others)
  pub config : SpellsConfig first script.config
  pub events : AllZip SpellsEvent others script.events

-- the line spells no config, or no event
abbrev pub IsNoConfig : List ℕ → Type 0
IsNoConfig line = (config : ScriptConfig) → SpellsConfig line config → ⊥

abbrev pub IsNoEvent : List ℕ → Type 0
IsNoEvent line = (event : AbstractEvent) → SpellsEvent line event → ⊥

-- The number, counted from 1, of the first line that is missing or not of its form.
pub data IsMisfit : List (List ℕ) → ℕ → Type 0 where
  no_line : IsMisfit [] 1
  no_config : (line : List ℕ) (others : List (List ℕ)) → IsNoConfig line → IsMisfit (line ∷ others) 1
  no_event : (first line : List ℕ) (before after : List (List ℕ)) (config : ScriptConfig) (events : List AbstractEvent)
      → SpellsConfig first config
      → AllZip SpellsEvent before events
      → IsNoEvent line
      → IsMisfit (first ∷ (before ++ line ∷ after)) (length before + 2)

-- a text with such a line
pub record HasMisfit (text : List ℕ) (number : ℕ) : Type 0 where
  pub lines : List (List ℕ)
  pub has : HasLines text lines
  pub misfit : IsMisfit lines number

-- why a text is not read as a script: a line is the first that is missing or not of its form, or memory ran out
pub data IsReason (text : List ℕ) : ScriptError → Type 0 where
  misfit : (number : ℕ) → HasMisfit text number → IsReason text (Line number)
  no_memory : IsReason text Memory

-- the text that is written for a script
abbrev pub script_text : AbstractScript → List ℕ
script_text script = lines_of (config_text script.config ∷ map event_text script.events)

-- a script whose lines have spellings
pub record ScriptHasSpelling (script : AbstractScript) : Type 0 where
  pub config : ConfigHasSpelling script.config
  pub events : All EventHasSpelling script.events
