-- Laws of the lines of a script.
use Rattle.std.specs.Prelude.{◌≡◌, ℕ, List}
use Rattle.rbg_wire.specs.Bytes.{LacksByte}
use Rattle.rbg_wire.specs.Lines.{line_feed}
use Rattle.rbg_wire.specs.Reads.{SpellsOne, AreApart}
use Rattle.rbg_script.specs.declared.config.ScriptConfig.{ScriptConfig}
use Rattle.rbg_script.specs.Config.{ConfigHasSpelling, SpellsConfig, config_text}
use Rattle.rbg_script.specs.Events.{AbstractEvent, EventHasSpelling, SpellsBytes, SpellsEvent, event_text}
use Rattle.rbg_script.specs.Inputs.{IsInput}
use Rattle.rbg_script.specs.Lines.{HasLines}
use Rattle.rbg_script.specs.Scripts.{AbstractScript, HasMisfit, ScriptHasSpelling, SpellsScript, script_text}

-- A text spells at most one config or one event, and none spells both. Digits spell at most one list of bytes.
pub record SpellingsAreApart : Type 0 where
  pub configs : SpellsOne SpellsConfig
  pub events : SpellsOne SpellsEvent
  pub kinds : AreApart SpellsConfig SpellsEvent
  pub bytes : SpellsOne SpellsBytes

-- The line that is written for a config or an event is a line, and spells it. The text that is written for a script
-- spells it too.
pub record WrittenIsRead : Type 0 where
  pub configs : (config : ScriptConfig) → ConfigHasSpelling config → SpellsConfig (config_text config) config
  pub events : (event : AbstractEvent) → EventHasSpelling event → SpellsEvent (event_text event) event
  pub config_lines : (config : ScriptConfig) → ConfigHasSpelling config → LacksByte line_feed (config_text config)
  pub event_lines : (event : AbstractEvent) → EventHasSpelling event → LacksByte line_feed (event_text event)
  pub scripts : (script : AbstractScript) → ScriptHasSpelling script → SpellsScript (script_text script) script

-- A text has at most one list of lines and spells at most one script. At most one line is the first that isn't of its
-- form, and then the text spells no script.
pub record ScriptsAreApart : Type 0 where
  pub lines : SpellsOne HasLines
  pub scripts : SpellsOne SpellsScript
  pub misfits : SpellsOne HasMisfit
  pub either : AreApart HasMisfit SpellsScript

-- An input is cut in one way at most.
abbrev pub InputsAreApart : Type 0
InputsAreApart =
    (input d e s t : List ℕ) → IsInput input d s → IsInput input e t → (d ≡ e) × (s ≡ t)
