-- The config of a script as that of a match.
use Rattle.rbg_match.specs.declared.config.Config.{Config}
use Rattle.rbg_script.specs.declared.config.ScriptConfig.{ScriptConfig}

-- the config of the match
abbrev pub config_for : ScriptConfig → Config
config_for config = record { turn_ms = config.turn_ms; refusals = config.refusals }
