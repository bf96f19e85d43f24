-- The first line of a script: `config <turn> <refusals> <now>`.
use Rattle.std.specs.Prelude.{ℕ, ◌<◌, ◌≤◌, ◌^◌, List, ◌++◌, codes, decimal}
use Rattle.rbg_wire.specs.Reads.{IsSpelling}
use Rattle.rbg_script.specs.declared.config.ScriptConfig.{ScriptConfig}
use Rattle.rbg_script.specs.Limits.{longest_turn, most_refusals}

-- the word, the time for a turn, the refusals that are allowed, and the moment at which the match begins
unfoldable pub config_text : ScriptConfig → List ℕ
config_text config =
    codes "config " ++ decimal config.turn_ms ++ codes " " ++ decimal config.refusals ++ codes " " ++ decimal config.now

-- the time for a turn and the refusals are within their limits
pub record AreWithinLimits (turn_ms refusals : ℕ) : Type 0 where
  pub some_time : 1 ≤ turn_ms
  pub turn : turn_ms ≤ longest_turn
  pub few : refusals ≤ most_refusals

-- a config that has a spelling: the moment is a number below 2 ^ 64
abbrev pub ConfigHasSpelling : ScriptConfig → Type 0
ConfigHasSpelling config = AreWithinLimits config.turn_ms config.refusals × (config.now < 2 ^ 64)

-- the text is that of this config
abbrev pub SpellsConfig : List ℕ → ScriptConfig → Type 0
SpellsConfig = IsSpelling ConfigHasSpelling config_text
